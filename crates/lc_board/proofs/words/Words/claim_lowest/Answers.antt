use Rattle.std.proofs.Common.{ℕ, ◌<◌, sym, ap, ◌∙◌, ◌≡◌, ◌||◌, false, subst}
use Rattle.lc_board.specs.{WordBounds.IsVisited, WordSteps.{AddsEvent, is_last_word}}
use Rattle.lc_board.specs.declared.event.Event.TheVariants as event
use Rattle.lc_board.proofs.WordBounds.{ScansTo, goes_up, scans_next, scan_ends, takes_less}
use Rattle.lc_board.proofs.WordScans.{same_trans, scan_over, scan_next, later_absent, sees_adds}
use Rattle.lc_board.proofs.words.Words.claim_lowest.Goals as goal
use Rattle.lc_board.proofs.words.Words.claim_lowest.Goals.{else-not-busy-via-then-not-busy+else-is_last, else-not-busy-via-else-not-busy}

pub returns-in-Ok-clause-rule : goal.returns-in-Ok-clause-rule
returns-in-Ok-clause-rule g c = let told = c.in-Ok.ensures.rule in let inv = c.loop-number.invariant in
    let v = c.args.pass.now.seat.me.0 in let u = c.loop-number.pass.seat.me.0 in let w = c.visit.new.pass.seat.me.0 in
    let who : u.worker ≡ v.worker = c.loop-number.pass.ties.numbered ∙ (inv.same.1 ∙ sym c.args.pass.now.ties.numbered) in (
      told.0,
      subst (λ z. AddsEvent c.args.self.now.capacity v (event.Claim z c.loop-number.number c.in-Ok.job) w) who
          (sees_adds c.args.self.now.capacity v u w (event.Claim u.worker c.loop-number.number c.in-Ok.job) inv.scan.0 told.1),
    )

pub returns-then-is_last-clause-rule : goal.returns-then-is_last-clause-rule
returns-then-is_last-clause-rule g c = let told = c.in-Err.ensures.rule in let inv = c.loop-number.invariant in
    let v = c.args.pass.now.seat.me.0 in let u = c.loop-number.pass.seat.me.0 in
    let who : u.worker ≡ v.worker = c.loop-number.pass.ties.numbered ∙ (inv.same.1 ∙ sym c.args.pass.now.ties.numbered) in (
      told.0,
      scan_over c.args.self.now.capacity c.loop-number.number c.in-Err.found c.loop-number.busy v u c.visit.new.pass.seat.me.0 who
          c.if-not-busy.true inv.scan told.2 (sym c.if-is_last.ensures),
    )

pub returns-then-is_absent-clause-rule : goal.returns-then-is_absent-clause-rule
returns-then-is_absent-clause-rule g c = let told = c.in-Err.ensures.rule in
    let more : c.loop-number.busy ≡ false → is_last_word c.args.self.now.capacity c.loop-number.number c.in-Err.found ≡ false =
    (λ e. elim c.else-not-busy.branch [
      | else-not-busy-via-then-not-busy+else-is_last x ↦ sym x.if-is_last.ensures
      | else-not-busy-via-else-not-busy x ↦ (let y = sym e ∙ x.if-not-busy.false in cc)
    ]) in (
      told.0,
      later_absent c.args.self.now.capacity c.loop-number.number c.in-Err.found c.loop-number.busy c.args.pass.now.seat.me.0
          c.loop-number.pass.seat.me.0 c.visit.new.pass.seat.me.0 c.loop-number.invariant.scan told.2 more (sym c.if-is_absent.ensures),
    )

pub returns-in-Ok-clause-steps : goal.returns-in-Ok-clause-steps
returns-in-Ok-clause-steps g c = let inv = c.loop-number.invariant in
    scan_ends c.args.self.now.capacity c.loop-number.number c.args.pass.now.seat.me.0 c.loop-number.pass.seat.me.0
    c.visit.new.pass.seat.me.0 inv.scan.0 inv.steps c.visit.ensures.steps

pub returns-then-is_last-clause-steps : goal.returns-then-is_last-clause-steps
returns-then-is_last-clause-steps g c = let inv = c.loop-number.invariant in
    scan_ends c.args.self.now.capacity c.loop-number.number c.args.pass.now.seat.me.0 c.loop-number.pass.seat.me.0
    c.visit.new.pass.seat.me.0 inv.scan.0 inv.steps c.visit.ensures.steps

pub returns-then-is_absent-clause-steps : goal.returns-then-is_absent-clause-steps
returns-then-is_absent-clause-steps g c = let inv = c.loop-number.invariant in
    scan_ends c.args.self.now.capacity c.loop-number.number c.args.pass.now.seat.me.0 c.loop-number.pass.seat.me.0
    c.visit.new.pass.seat.me.0 inv.scan.0 inv.steps c.visit.ensures.steps

pub returns-clause-steps : goal.returns-clause-steps
returns-clause-steps g c = let cap : ℕ = c.args.self.now.capacity in let v = c.args.pass.now.seat.me.0 in
    takes_less (ScansTo cap c.loop-number.number v) (IsVisited cap v) v c.loop-number.pass.seat.me.0 c.loop-number.invariant.steps
    (λ k n p. p.0)

pub loop-number-preserved : goal.loop-number-preserved
loop-number-preserved g c = let told = c.in-Err.ensures.rule in let inv = c.loop-number.invariant in
    let more : c.loop-number.busy ≡ false → is_last_word c.args.self.now.capacity c.loop-number.number c.in-Err.found ≡ false =
    (λ e. elim c.else-not-busy.branch [
      | else-not-busy-via-then-not-busy+else-is_last x ↦ sym x.if-is_last.ensures
      | else-not-busy-via-else-not-busy x ↦ (let y = sym e ∙ x.if-not-busy.false in cc)
    ]) in
    record {
      same = same_trans c.args.pass.now c.loop-number.pass c.visit.new.pass inv.same c.in-Err.ensures.board;
      holding = told.0;
      scan = scan_next c.args.self.now.capacity c.loop-number.number _ c.visit.new.pass.taken c.in-Err.found c.loop-number.busy
          (c.loop-number.busy || c.is_busy-busy.result) c.args.pass.now.seat.me.0 c.loop-number.pass.seat.me.0
          c.visit.new.pass.seat.me.0 inv.scan told.2 more c.loop-number-test.true (c.args.pass.now.ties.holds ∙ c.requires.free)
          (sym c.if-is_absent.ensures) told.1 (ap (λ b. c.loop-number.busy || b) c.is_busy-busy.ensures) c.visit.new.pass.marked
          c.number_after-number.ensures;
      steps = let v = c.args.pass.now.seat.me.0 in let u = c.loop-number.pass.seat.me.0 in let w = c.visit.new.pass.seat.me.0 in
          scans_next c.args.self.now.capacity c.loop-number.number c.number_after-number.result v u w
          (subst (λ z. c.loop-number.number < z) (sym c.number_after-number.ensures) (goes_up _ _ _)) inv.scan.0 inv.steps
          c.visit.ensures.steps;
    }
