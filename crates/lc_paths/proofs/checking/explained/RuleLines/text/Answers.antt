use Rattle.std.proofs.Common.{◌-◌, ◌∙◌, [], ap, arith}
use Rattle.std.specs.List.{slice_index_or}
use Rattle.lc_rules.specs.{IgnoreRules.text_of_line, RuleLines.lines_of}
use Rattle.lc_paths.proofs.Checks.ExplainedLines.{text_at}
use Rattle.lc_paths.proofs.checking.explained.RuleLines.text.Goals as goal

pub returns : goal.returns
returns c =
    let lines = lines_of c.args.self.now.rules.now in
    text_at c.args.self.now.texts.items lines (c.line.result - 1) c.index.result.now c.args.self.now.read
    (omega (arith, c.line.ensures, c.requires.counted, c.requires.within)) c.index.ensures
    ∙ ap (λ n. text_of_line (slice_index_or lines (n - 1) [])) c.line.ensures
