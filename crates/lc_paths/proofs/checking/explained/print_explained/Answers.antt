use Rattle.std.proofs.Common.{◌∙◌, ◌++◌, ℕ, List, Err, subst}
use Rattle.std.specs.List.{flat_map}
use Rattle.lc_level.proofs.PassedOn.{passed_on}
use Rattle.lc_paths.specs.{Checks.ExplainedText.explained_line, Paths.paths_in, Styles.styled}
use Rattle.lc_io.specs.Pieces.{AnswersInPieces}
use Rattle.lc_paths.proofs.Checks.ExplainedLines.{line_more, line_none}
use Rattle.lc_io.proofs.InPieces.{all_but-appended, all_but-printed, all_but-faulted, all_but-answered}
use Rattle.lc_paths.proofs.checking.explained.print_explained.Goals as goal

pub returns-in_err-print_if_full : goal.returns-in_err-print_if_full
returns-in_err-print_if_full g c =
    let may_take = g.O.Sink.may_take in
    let line_of = explained_line (styled c.args.lines.now.style) c.args.lines.now.name.now c.args.lines.now.rules.now in
    let inv = c.lines.invariant in
    let fault = c.in_err-print_if_full.field-0.0 in
    let wrote = c.print_if_full.new.out in
    let written = all_but-appended may_take _ _ _ _ inv.written _ _ c.in_ok-push_explained.ensures.text in
    passed_on (λ answer. AnswersInPieces may_take c.args.out.now (flat_map line_of (paths_in c.args.paths)) answer wrote)
    c.from_residual-in_err-print_if_full.result fault c.from_residual-in_err-print_if_full.ensures.1
    (subst (λ (text : List ℕ). AnswersInPieces may_take c.args.out.now text (Err fault) wrote)
    (line_more line_of inv.made _ _ _ _ inv.whole c.in-Some.ensures)
    (all_but-faulted may_take _ _ _ _ written fault _ _ _ c.in_err-print_if_full.ensures))

pub lines-preserved : goal.lines-preserved
lines-preserved g c =
    let line_of = explained_line (styled c.args.lines.now.style) c.args.lines.now.name.now c.args.lines.now.rules.now in
    let inv = c.lines.invariant in
    let written = all_but-appended g.O.Sink.may_take _ _ _ _ inv.written _ _ c.in_ok-push_explained.ensures.text in
    record {
      made = inv.made ++ line_of c.in-Some.line.now;
      whole = line_more line_of inv.made _ _ _ _ inv.whole c.in-Some.ensures;
      written = all_but-printed g.O.Sink.may_take _ _ _ _ written _ _ c.in_ok-print_if_full.ensures;
      rules = c.push_explained.ensures.rules ∙ inv.rules;
    }

pub returns : goal.returns
returns g c =
    let line_of = explained_line (styled c.args.lines.now.style) c.args.lines.now.name.now c.args.lines.now.rules.now in
    let inv = c.lines.invariant in
    subst (λ (text : List ℕ). AnswersInPieces g.O.Sink.may_take c.args.out.now text c.print_rest.result c.print_rest.new.out)
    (line_none line_of inv.made _ _ inv.whole c.in_default.ensures)
    (all_but-answered g.O.Sink.may_take _ _ _ _ inv.written _ _ c.print_rest.ensures.answers)
