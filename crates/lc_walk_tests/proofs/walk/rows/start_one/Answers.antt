use Rattle.std.proofs.{Common.{◌<◌, length, Some, sym, ap, ◌∙◌, arith}, lemmas.Option.slice_get-get_or}
use Rattle.lc_walk_tests.proofs.walk.rows.start_one.Goals as goal

pub returns-clause-pass : goal.returns-clause-pass
returns-clause-pass g c =
    let items = c.in_ok-board.passes.items in
    let inside : 0 < length items = omega (arith, c.in_ok-board.passes.ok.0, c.in_ok-board.ensures.count) in
    c.in_ok-board.ensures.passes 0 _ (slice_get-get_or items 0 _ inside ∙ ap Some (sym c.remove-pass.ensures.value))
