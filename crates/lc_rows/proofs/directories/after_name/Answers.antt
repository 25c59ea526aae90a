use Rattle.std.proofs.Common.{◌-◌, ◌∙◌, ap, arith}
use Rattle.lc_rows.proofs.PathCuts.{cut_empty, cut_more, cut_path, cut_rest, cut_whole}
use Rattle.lc_rows.proofs.directories.after_name.Goals as goal

pub returns-in-None-clause-front : goal.returns-in-None-clause-front
returns-in-None-clause-front c =
    cut_whole c.args.path.now c.segments.rest.now c.cut_at_first.result.0.now c.args.number c.segments.left c.segments.invariant
    c.segments-test.true (rw c.in-None.is at c.cut_at_first.ensures.pieces)

pub returns-in-None-clause-rest : goal.returns-in-None-clause-rest
returns-in-None-clause-rest c =
    cut_empty c.args.path.now c.segments.rest.now c.cut_at_first.result.0.now c.args.number c.segments.left c.segments.invariant
    c.segments-test.true (rw c.in-None.is at c.cut_at_first.ensures.pieces)

pub segments-preserved : goal.segments-preserved
segments-preserved c =
    cut_more c.args.path.now c.segments.rest.now c.cut_at_first.result.0.now c.in-Some.below.now c.args.number c.segments.left
    c.saturating_sub-left.result c.segments.invariant c.segments-test.true (rw c.in-Some.is at c.cut_at_first.ensures.pieces)
    (rw c.in-Some.is at c.cut_at_first.ensures.whole)
    (c.saturating_sub-left.ensures ∙ ap (λ n. c.segments.left - n) c.names_in.ensures)

pub returns-clause-front : goal.returns-clause-front
returns-clause-front c = cut_path c.args.path.now c.segments.rest.now c.args.number c.segments.left c.segments.invariant (omega arith)

pub returns-clause-rest : goal.returns-clause-rest
returns-clause-rest c = cut_rest c.args.path.now c.segments.rest.now c.args.number c.segments.left c.segments.invariant (omega arith)
