use Rattle.std.proofs.{Common.{◌≡◌, [], length, arith, refl, ap, ◌∙◌}, lemmas.List.length-replicate}
use Rattle.lc_board.specs.RecordedBoard.{held_count}
use Rattle.lc_board.proofs.{RecordedSteps.held_count-nobody, PlainSteps.has_numbers}
use Rattle.lc_board.proofs.locked.recorded.Recorded.start.Goals as goal

pub invariant_of-result : goal.invariant_of-result
invariant_of-result g c =
    let is = c.in_ok-plain.ensures.0 in
    let count : held_count c.in_ok-plain.plain.held ≡ 0 = ap (λ b. held_count b.held) is ∙ held_count-nobody c.args.workers in
    let seats : length c.in_ok-plain.plain.held ≡ c.args.workers = ap (λ b. length b.held) is ∙ simp length-replicate in
    record {
      recorded = rw c.new.ensures.items (record {
        root = c.args.root;
        events = [];
        after = c.in_ok-plain.ensures.1;
        stored_is = refl;
        numbers = has_numbers c.args.root [] _ c.in_ok-plain.ensures.1;
      });
      ends_fit = omega (arith, count);
      few = omega (arith, seats, c.requires.workers.1);
    }
