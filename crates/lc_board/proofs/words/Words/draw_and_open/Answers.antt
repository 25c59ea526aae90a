use Rattle.std.proofs.Common.{ℕ, arith, sym, ap, subst, ◌∙◌, ◌+◌, ◌<◌, refl, ◌∷◌}
use Rattle.atomic_table.specs.Table.{rest}
use Rattle.lc_board.specs.{declared.words.view.Slot.TheVariants.Job, Holding.holding, WordSteps.TakesStep, WordPass.{AreListed, AreTaken}}
use Rattle.lc_board.specs.WordPass.{IsTied}
use Rattle.lc_board.proofs.{WordMarks.{keeps_looked, listed_more, listed_on, marked_added, marked_looked}, WordTies.{holds_some, first_job}}
use Rattle.lc_board.proofs.{WordTies.{tied_passed, tied_posted}, WordBounds.{steps_both, takes_one}, WordScans.try_posted}
use Rattle.lc_board.proofs.words.Words.draw_and_open.Goals as goal

pub open_drawn-requires-clause-may : goal.open_drawn-requires-clause-may
open_drawn-requires-clause-may g c = let p = c.args.pass.now in let t = p.ties in let h = holds_some p.holding c.requires.holds in
    let claim = t.holds ∙ h.1 in
    let drew = c.if-not-is_drawn.ensures.rule in let hit = drew.4 in let now = c.fill.ensures.filled in let me = ap (λ m. m.0) now in (
      ap (λ v. v.live) me ∙ (drew.0.0 ∙ t.live),
      ap (λ v. v.drawn) me ∙ hit.1,
      (h.0, ap (λ v. holding v.mine) me ∙ (ap holding drew.3.1 ∙ claim), hit.2 h.0 claim),
      (c.args.job, ap (λ m. m.1) now ∙ ap (λ m. (p.front, Job c.args.job) ∷ rest m.1) (sym now)),
    )

pub returns-clause-rule : goal.returns-clause-rule
returns-clause-rule g c = let p = c.args.pass.now in let t = p.ties in
    let drew = c.if-not-is_drawn.ensures.rule in let now = c.fill.ensures.filled in let me = ap (λ m. m.0) now in
    let did = c.open_drawn.ensures.rule.1 in (
      refl,
      try_posted _ _ _ _ _ _ p.seat.me.0 c.draw-is_drawn.new.seat.me.0 c.fill.new.seat.me.0 c.open_drawn.new.seat.me.0 refl me drew.3
          (ap (λ v. v.worker) me ∙ (drew.0.3 ∙ t.numbered)) t.holds did.0 did.1 did.2
          (first_job _ _ _ _ _ _ (sym did.3 ∙ ap (λ m. m.1) now)) did.4,
    )

pub returns-then-not-is_drawn-clause-steps : goal.returns-then-not-is_drawn-clause-steps
returns-then-not-is_drawn-clause-steps g c =
    takes_one _ c.args.pass.now.seat.me.0 c.draw-is_drawn.new.seat.me.0 c.if-not-is_drawn.ensures.rule.5

pub returns-clause-steps : goal.returns-clause-steps
returns-clause-steps g c = let i : ℕ = c.args.pass.now.front in let v = c.args.pass.now.seat.me.0 in let u = c.fill.new.seat.me.0 in
    let me = sym (ap (λ m. m.0) c.fill.ensures.filled) in (
      refl,
      steps_both 1 1 i v u c.open_drawn.new.seat.me.0
          (takes_one i v u (subst (λ z. TakesStep i v z) me c.if-not-is_drawn.ensures.rule.5))
          (takes_one i u c.open_drawn.new.seat.me.0 c.open_drawn.ensures.rule.2),
    )

pub invariant_of-pass : goal.invariant_of-pass
invariant_of-pass g c = let p = c.args.pass.now in let sq = c.args.self.now.square in let near = c.requires.near in
    let own = ap (λ z. z.slots) c.requires.board in
    let same = c.draw-is_drawn.ensures.board in let drew = c.if-not-is_drawn.ensures.rule in
    let inside : p.front < p.seat.table_id.slots = omega arith in record {
      ties = subst (λ z. IsTied z.slots p.worker p.holding p.posted (p.front + 1) p.low c.draw-is_drawn.new.seat.me) (sym same)
          (tied_passed c.args.self.now.capacity p.seat.table_id.slots p.front p.worker p.holding p.posted p.low p.seat.me
          c.draw-is_drawn.new.seat.me inside drew p.ties);
      marked = marked_looked _ _ p.seat.me.0 c.draw-is_drawn.new.seat.me.0 drew.3 p.marked;
      listed = let v = p.seat.me.0 in let u = c.draw-is_drawn.new.seat.me.0 in listed_on p.newest v u (keeps_looked _ v u drew.3) p.listed;
      all_used = λ full. let x = p.all_used full in absurd (omega arith);
    }

pub invariant_of-pass-2 : goal.invariant_of-pass-2
invariant_of-pass-2 g c = let p = c.args.pass.now in let sq = c.args.self.now.square in let near = c.requires.near in
    let own = ap (λ z. z.slots) c.requires.board in
    let same = c.open_drawn.ensures.board ∙ (c.fill.ensures.board ∙ c.draw-is_drawn.ensures.board) in
    let drew = c.if-not-is_drawn.ensures.rule in let me = ap (λ m. m.0) c.fill.ensures.filled in
    let inside : p.front < p.seat.table_id.slots = omega arith in record {
      ties = subst (λ z. IsTied z.slots p.worker p.holding (p.posted + 1) (p.front + 1) p.low c.open_drawn.new.seat.me) (sym same)
          (tied_posted c.args.self.now.capacity p.seat.table_id.slots p.front p.worker p.holding c.args.job p.posted p.low p.seat.me
          c.draw-is_drawn.new.seat.me c.fill.new.seat.me c.open_drawn.new.seat.me inside drew c.fill.ensures.filled
          c.open_drawn.ensures.rule p.ties);
      marked = marked_added _ _ c.fill.new.seat.me.0 c.open_drawn.new.seat.me.0 _ c.open_drawn.ensures.rule.1.4
          (subst (λ v. AreTaken p.taken v.seen) (sym me) (marked_looked _ _ p.seat.me.0 c.draw-is_drawn.new.seat.me.0 drew.3 p.marked));
      listed = let v = p.seat.me.0 in let u = c.draw-is_drawn.new.seat.me.0 in
          listed_more _ _ _ _ _ p.newest c.note.new.self c.fill.new.seat.me.0 c.open_drawn.new.seat.me.0 c.open_drawn.ensures.rule.1.4
          c.note.ensures.adds
          (subst (λ z. AreListed p.newest z.seen) (sym me) (listed_on p.newest v u (keeps_looked _ v u drew.3) p.listed));
      all_used = λ full. let x = p.all_used full in absurd (omega arith);
    }
