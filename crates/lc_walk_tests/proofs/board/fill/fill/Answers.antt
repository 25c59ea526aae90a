use Rattle.std.proofs.{Common.{◌≡◌, ◌<◌, Some, length, sym, ap, ◌∙◌}, lemmas.Option.slice_get-get_or}
use Rattle.lc_board.specs.Pass.{holding}
use Rattle.lc_board.proofs.ReturnedPasses.{still_in_order}
use Rattle.lc_walk_tests.proofs.board.fill.fill.Goals as goal

pub work_all-requires-after_bounds : goal.work_all-requires-after_bounds
work_all-requires-after_bounds g c κs within i p low at =
    let inside : i < length c.in_ok-board.passes.items = rw (sym c.in_ok-board.passes.ok.0) low in
    let first = c.in_ok-board.ensures.passes i p (slice_get-get_or c.in_ok-board.passes.items i p inside ∙ ap Some (sym at)) in
    (first.0, ap holding first.1)

pub close-requires-clause-each : goal.close-requires-clause-each
close-requires-clause-each g c =
    let len : length c.in_ok-passes.passes.items ≡ length c.in_ok-board.passes.items =
    sym c.in_ok-passes.passes.ok.0 ∙ (c.in_ok-passes.ensures.len ∙ c.in_ok-board.passes.ok.0) in
    still_in_order g.B.Pass.Token.view (g.B.Shared.owns c.in_ok-board.board)
    (λ p. p) c.in_ok-board.passes.items c.in_ok-passes.passes.items len c.in_ok-board.ensures.passes
    (λ w p q low. c.in_ok-passes.ensures.each w p q (rw c.in_ok-board.passes.ok.0 low))
