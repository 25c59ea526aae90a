use Rattle.std.proofs.Common.{◌∙◌, ap₂, sym}
use Rattle.lc_paths.specs.Checks.{CheckText.{file_verdict, path_word}, ExplainedText.path_rule}
use Rattle.lc_paths.proofs.Checks.ExplainedLines.{found_on_line, line_found}
use Rattle.lc_text.proofs.Appended.{appended_same}
use Rattle.lc_paths.proofs.checking.explained.push_explained.Goals as goal

pub push_line-requires : goal.push_line-requires
push_line-requires c =
    found_on_line c.args.lines.now.rules.now c.args.checker.now.rules.now c.split_slash-is_dir.result.0.now
    c.split_slash-is_dir.result.1 c.rule.result c.requires (c.rule.ensures ∙ c.find-finding.ensures.rule)

pub returns-clause-text : goal.returns-clause-text
returns-clause-text c =
    let rules = c.args.checker.now.rules.now in
    let path = c.split_slash-is_dir.ensures.path in
    let dir = c.split_slash-is_dir.ensures.dir in
    appended_same _ _ _ _ _ c.push_line.ensures
    (sym (line_found _ _ c.args.lines.now.rules.now c.args.line.now rules _ _ c.requires
    (c.word.ensures ∙ c.find-finding.ensures.word ∙ ap₂ (path_word (file_verdict rules)) path dir)
    (c.rule.ensures ∙ c.find-finding.ensures.rule ∙ ap₂ (path_rule rules) path dir)))
