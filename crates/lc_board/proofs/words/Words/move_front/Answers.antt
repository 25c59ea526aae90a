use Rattle.std.proofs.Common.{arith, ◌+◌, ◌∙◌, refl, subst, ap, sym}
use Rattle.lc_board.specs.{WordCode.is_absent, WordPass.IsTied}
use mathlib.Core.Option.{none}
use Rattle.atomic_table.specs.Table.{step}
use Rattle.lc_board.proofs.{WordPosts.steps_over, WordTies.{holds_some, tied_seen, tied_stepped}}
use Rattle.lc_board.proofs.WordMarks.{keeps_looked, listed_on, marked_looked}
use Rattle.lc_board.proofs.words.Words.move_front.Goals as goal

pub load-requires : goal.load-requires
load-requires g c = let p = c.args.pass.now in let t = p.ties in let sq = c.args.self.now.square in let near = c.requires.near in
    let h = holds_some p.holding c.requires.holds in (
      c.requires.board,
      omega arith,
      steps_over _ _ _ _ _ _ h.0 t.live (omega arith) t.idle t.fronted (t.holds ∙ h.1),
    )

pub invariant_of-pass : goal.invariant_of-pass
invariant_of-pass g c = let p = c.args.pass.now in let same = ap (λ z. z.slots) c.load.ensures.0 in record {
  ties = subst (λ k. IsTied k p.worker p.holding p.posted p.front p.low c.load.new.seat.me) (sym same)
      (tied_seen _ c.load.result _ _
      (step c.args.self.now.table.shared.table_id.slots p.front 0 0 none) _ _ _ p.seat.me c.load.new.seat.me
      (ap is_absent (sym c.of-found.ensures) ∙ (sym c.if-is_absent.ensures)) c.load.ensures.2 p.ties);
  marked = marked_looked _ _ p.seat.me.0 c.load.new.seat.me.0 c.load.ensures.2.5 p.marked;
  listed = let v = p.seat.me.0 in let w = c.load.new.seat.me.0 in listed_on p.newest v w (keeps_looked _ v w c.load.ensures.2.5) p.listed;
  all_used = λ full. p.all_used full ∙ sym same;
}

pub invariant_of-pass-2 : goal.invariant_of-pass-2
invariant_of-pass-2 g c = let p = c.args.pass.now in let same = ap (λ z. z.slots) c.load.ensures.0 in
    let sq = c.args.self.now.square in let near = c.requires.near in let own = ap (λ z. z.slots) c.requires.board in record {
      ties = subst (λ k. IsTied k p.worker p.holding p.posted (p.front + 1) p.low c.load.new.seat.me) (sym same)
          (tied_stepped _ _ c.load.result _ _
          (step c.args.self.now.table.shared.table_id.slots p.front 0 0 none) _ _ p.seat.me c.load.new.seat.me refl (omega arith)
          (ap is_absent (sym c.of-found.ensures) ∙ (sym c.if-is_absent.ensures)) c.load.ensures.2 p.ties);
      marked = marked_looked _ _ p.seat.me.0 c.load.new.seat.me.0 c.load.ensures.2.5 p.marked;
      listed = let v = p.seat.me.0 in let w = c.load.new.seat.me.0 in
          listed_on p.newest v w (keeps_looked _ v w c.load.ensures.2.5) p.listed;
      all_used = λ full. let x = p.all_used full in absurd (omega arith);
    }
