use Rattle.std.proofs.Common.{Some, refl, ap, sym, ◌∙◌, ◌-◌, ◌∷◌, replicate, arith}
use Rattle.lc_board.specs.{declared.words.view.Slot.TheVariants.{Empty, Job}, WordSteps.view_before_split}
use Rattle.lc_board.proofs.{WordSeats.begins, WordStarts.{row_length, tied_first}}
use Rattle.lc_board.proofs.words.Words.open.Goals as goal

pub new-requires : goal.new-requires
new-requires g c = begins _ _ c.of.result.value c.args.workers (c.args.capacity - 1) c.requires.workers.0 _ _
    (c.as_slice.ensures.value ∙ c.in_ok-words.ensures)
    (c.in_ok-slots.ensures ∙ ap (λ j. Job j ∷ replicate (c.args.capacity - 1) Empty) (sym c.of.ensures))

pub invariant_of-pass : goal.invariant_of-pass
invariant_of-pass g c =
    let told = c.in-Ok.ensures.ok in
    let size = ap (λ t. t.slots) told.2 ∙ (told.1 ∙ row_length _ _ _ _ c.in_ok-slots.ensures c.requires.capacity.0) in
    record {
      ties = tied_first _ _ _ _ told.4 (omega (arith, size, c.requires.capacity.0));
      marked = λ k less. absurd (omega arith);
      listed = λ k has. absurd (c.new-in-Ok.ensures k has);
      all_used = λ full. absurd cc;
    }

pub invariant_of-result : goal.invariant_of-result
invariant_of-result g c =
    let told = c.in-Ok.ensures.ok in
    let some = c.requires.capacity.0 in
    record {
      square = (
        told.0 ∙ row_length _ _ _ _ (c.as_slice.ensures.value ∙ c.in_ok-words.ensures) some,
        told.1 ∙ row_length _ _ _ _ c.in_ok-slots.ensures some,
      );
      small = (some, c.requires.capacity.1, c.requires.workers.0, c.requires.workers.1);
      setup = ap (λ k. k.workers) told.5;
    }

pub returns-in-Ok-clause-board : goal.returns-in-Ok-clause-board
returns-in-Ok-clause-board g c = (refl, refl, ap (λ k. k.root.value) c.in-Ok.ensures.ok.5 ∙ c.of.ensures)

pub returns-in-Ok-clause-pass : goal.returns-in-Ok-clause-pass
returns-in-Ok-clause-pass g c =
    let told = c.in-Ok.ensures.ok in (
      told.2,
      refl,
      refl,
      refl,
      ap (λ m. m.0) told.4 ∙ ap (λ j. view_before_split (Some j) c.args.workers) c.of.ensures,
    )
