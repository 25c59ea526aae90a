use Rattle.std.proofs.Common.{arith, sym, ap, ◌∙◌, refl, ℕ, ◌+◌, ◌*◌, ◌∷◌, Some, subst}
use Rattle.atomic_table.specs.Table.{rest, step}
use mathlib.Core.Option.{none}
use Rattle.lc_board.specs.{declared.words.view.Slot.TheVariants.Job, WordPass.{AreListed, AreTaken, IsTied}}
use Rattle.lc_board.specs.{WordCode.is_open, WordHistory.Seated}
use Rattle.lc_board.proofs.{WordClaims.claims, WordTies.{did_claim, not_claimed, tied_claimed}}
use Rattle.lc_board.proofs.WordMarks.{keeps_added, keeps_missed, listed_on, marked_claimed, marked_missed}
use Rattle.lc_board.specs.declared.words.coding.Word.TheVariants as word
use Rattle.lc_board.proofs.words.Words.try_claim.Goals as goal

pub compare_exchange-old-requires : goal.compare_exchange-old-requires
compare_exchange-old-requires g c = let t = c.args.pass.now.ties in let sq = c.args.self.now.square in let near = c.requires.near in (
  c.requires.board,
  omega arith,
  claims _ _ _ _ _ _ _ t.live (omega arith) (t.holds ∙ c.requires.free)
      (c.claimed_by-new.ensures ∙ ap (λ (n : ℕ). 5 + 2 * n) (sym t.numbered)),
)

pub exchange-requires : goal.exchange-requires
exchange-requires g c = let told = c.compare_exchange-old.ensures in let hit = did_claim
    (step c.args.self.now.table.shared.table_id.slots c.args.number 1 c.claimed_by-new.result none) c.args.pass.now.seat.me
    c.compare_exchange-old.new.seat.me c.compare_exchange-old.result c.of-found.result c.of-found.ensures
    (sym c.is_open.ensures ∙ c.if-not-is_open.false) told.2 in
    (told.0 ∙ c.requires.board, (Job hit.0, hit.5 ∙ ap (λ l. (c.args.number, Job hit.0) ∷ rest l) (sym hit.5)))

pub invariant_of-pass-in-Job : goal.invariant_of-pass-in-Job
invariant_of-pass-in-Job g c = let sq = c.args.self.now.square in let near = c.requires.near in
    let e = c.compare_exchange-old.ensures.0 in let t = c.args.pass.now.ties in
    let hit = did_claim
    (step c.args.self.now.table.shared.table_id.slots c.args.number 1 c.claimed_by-new.result none) c.args.pass.now.seat.me
    c.compare_exchange-old.new.seat.me c.compare_exchange-old.result c.of-found.result c.of-found.ensures
    (sym c.is_open.ensures ∙ c.if-not-is_open.false) c.compare_exchange-old.ensures.2 in
    let v = c.args.pass.now.seat.me.0 in let w = c.compare_exchange-old.new.seat.me.0 in
    let me = sym (ap {A = Seated _ _} (λ m. m.0) c.exchange.ensures.3) in
    record {
      ties = subst (λ z. IsTied z.slots c.args.pass.now.worker
          (Some c.args.number) 0 c.args.pass.now.front c.args.pass.now.low c.exchange.new.seat.me) (sym (c.exchange.ensures.0 ∙ e))
          (tied_claimed _ c.args.number c.compare_exchange-old.result _
          (step c.args.self.now.table.shared.table_id.slots c.args.number 1 c.claimed_by-new.result none) _ _ _ c.args.pass.now.seat.me
          c.compare_exchange-old.new.seat.me _ refl (let own = ap (λ z. z.slots) c.requires.board in omega arith)
          (ap is_open (sym c.of-found.ensures) ∙ (sym c.is_open.ensures ∙ c.if-not-is_open.false)) c.compare_exchange-old.ensures.2
          c.exchange.ensures.3
          (subst (λ o. IsTied c.args.pass.now.seat.table_id.slots c.args.pass.now.worker o c.args.pass.now.posted c.args.pass.now.front
          c.args.pass.now.low c.args.pass.now.seat.me) c.requires.free t));
      marked = subst (λ u. AreTaken c.next_taken-pass-in-Job.result u.seen) me (marked_claimed _ c.args.number _
          (word.Claimed c.args.pass.now.worker) c.args.pass.now.taken _ hit.0 v w hit.6 c.next_taken-pass-in-Job.ensures
          c.args.pass.now.marked);
      listed = subst (λ u. AreListed c.args.pass.now.newest u.seen) me
          (listed_on c.args.pass.now.newest v w (keeps_added _ v w _ hit.6) c.args.pass.now.listed);
      all_used = λ f. c.args.pass.now.all_used f ∙ ap (λ z. z.slots) (sym (c.exchange.ensures.0 ∙ e));
    }

pub invariant_of-pass-clause-marked : goal.invariant_of-pass-clause-marked
invariant_of-pass-clause-marked g c = let v = c.args.pass.now.seat.me.0 in let w = c.compare_exchange-old.new.seat.me.0 in
    let saw = not_claimed
    (step c.args.self.now.table.shared.table_id.slots c.args.number 1 c.claimed_by-new.result none) c.args.pass.now.seat.me
    c.compare_exchange-old.new.seat.me c.compare_exchange-old.result c.of-found.result c.of-found.ensures
    (sym c.is_open.ensures ∙ c.if-not-is_open.true) c.compare_exchange-old.ensures.2 in
    marked_missed _ c.args.number c.of-found.result c.args.pass.now.taken _ v w saw.1 c.next_taken-pass.ensures c.args.pass.now.marked

pub invariant_of-pass-clause-listed : goal.invariant_of-pass-clause-listed
invariant_of-pass-clause-listed g c = let v = c.args.pass.now.seat.me.0 in let w = c.compare_exchange-old.new.seat.me.0 in
    let saw = not_claimed
    (step c.args.self.now.table.shared.table_id.slots c.args.number 1 c.claimed_by-new.result none) c.args.pass.now.seat.me
    c.compare_exchange-old.new.seat.me c.compare_exchange-old.result c.of-found.result c.of-found.ensures
    (sym c.is_open.ensures ∙ c.if-not-is_open.true) c.compare_exchange-old.ensures.2 in
    listed_on c.args.pass.now.newest v w (keeps_missed _ _ _ v w saw.1) c.args.pass.now.listed
