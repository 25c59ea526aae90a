use Rattle.std.proofs.{Common.{◌≡◌, ℕ, ◌+◌, ◌∙◌, Some, length, map, vec_len, refl, sym, ap, subst, arith}, lemmas.List.length-map}
use Rattle.std.specs.Mem.Slots.{slots_items, slots_counts}
use Rattle.lc_board.specs.{WordsBoard.{known, told}, WordClose.HasTaken}
use Rattle.lc_board.proofs.{Closing.map_get, WordCloses.{popped, took_first, took_in, gathers}}
use Rattle.lc_board.proofs.words.Words.gather.Goals as goal

pub loop-other-init : goal.loop-other-init
loop-other-init g c =
    let n : ℕ = vec_len c.pop.new.self in
    let len : length c.pop.new.self.items ≡ vec_len c.pop.new.self = sym c.pop.new.self.ok.0 in
    let all : length c.args.passes.items ≡ c.args.self.workers = sym c.args.passes.ok.0 ∙ c.requires.all in
    let more : vec_len c.pop.new.self + 1 ≡ vec_len c.args.passes = c.in-Some.ensures.cases in
    let p = popped c.args.passes.items c.args.passes.items c.pop.new.self.items c.in-Some.pass
    (vec_len c.pop.new.self) c.in-Some.ensures.items len (λ w l. refl) in
    let its = c.requires.each (vec_len c.pop.new.self) c.in-Some.pass p.0 in
    let t = c.in-Some.pass.ties in
    let slots = ap (λ z. z.slots) its.0 in
    record {
      own = its.0;
      fewer = omega (arith, more, c.requires.all);
      same = p.1;
      has = took_first c.args.self.capacity (map told c.args.passes.items) (vec_len c.pop.new.self) (known c.in-Some.pass)
          (told c.in-Some.pass)
          (length-map c.args.passes.items told ∙ (all ∙ (sym c.requires.all ∙ sym more)))
          (map_get told c.args.passes.items (vec_len c.pop.new.self) c.in-Some.pass p.0) (t.numbered ∙ its.1) refl
          (λ f. omega (arith, c.in-Some.pass.all_used f, t.fronted, slots, c.args.self.square.1));
    }

pub take_in-requires : goal.take_in-requires
take_in-requires g c =
    let inv = c.loop-other.invariant in
    let len : length c.pop-in-loop-other.new.self.items ≡ vec_len c.pop-in-loop-other.new.self = sym c.pop-in-loop-other.new.self.ok.0 in
    let more : vec_len c.pop-in-loop-other.new.self + 1 ≡ vec_len c.loop-other.passes = c.in-Some-pop.ensures.cases in
    let p = popped c.args.passes.items c.loop-other.passes.items c.pop-in-loop-other.new.self.items c.in-Some-pop.other
    (vec_len c.pop-in-loop-other.new.self) c.in-Some-pop.ensures.items len (λ w l. inv.same w (omega (arith, l, more))) in
    record { board = (inv.own, (c.requires.each (vec_len c.pop-in-loop-other.new.self) c.in-Some-pop.other p.0).0) }

pub loop-other-preserved : goal.loop-other-preserved
loop-other-preserved g c =
    let inv = c.loop-other.invariant in
    let len : length c.pop-in-loop-other.new.self.items ≡ vec_len c.pop-in-loop-other.new.self = sym c.pop-in-loop-other.new.self.ok.0 in
    let more : vec_len c.pop-in-loop-other.new.self + 1 ≡ vec_len c.loop-other.passes = c.in-Some-pop.ensures.cases in
    let p = popped c.args.passes.items c.loop-other.passes.items c.pop-in-loop-other.new.self.items c.in-Some-pop.other
    (vec_len c.pop-in-loop-other.new.self) c.in-Some-pop.ensures.items len (λ w l. inv.same w (omega (arith, l, more))) in
    let its = c.requires.each (vec_len c.pop-in-loop-other.new.self) c.in-Some-pop.other p.0 in
    let t = c.in-Some-pop.other.ties in
    let slots = ap (λ z. z.slots) its.0 in
    record {
      own = c.take_in.ensures.same.0.0 ∙ inv.own;
      fewer = omega (arith, more, inv.fewer);
      same = p.1;
      has = subst (λ v. HasTaken c.args.self.capacity (map told c.args.passes.items) (vec_len c.pop-in-loop-other.new.self) v)
          (sym c.take_in.ensures.known)
          (took_in c.args.self.capacity (map told c.args.passes.items) (vec_len c.pop-in-loop-other.new.self) (known c.loop-other.pass)
          (known c.in-Some-pop.other) (told c.in-Some-pop.other)
          (map_get told c.args.passes.items (vec_len c.pop-in-loop-other.new.self) c.in-Some-pop.other p.0) (t.numbered ∙ its.1) refl
          (λ f. omega (arith, c.in-Some-pop.other.all_used f, t.fronted, slots, c.args.self.square.1))
          (subst (λ k. HasTaken c.args.self.capacity (map told c.args.passes.items) k (known c.loop-other.pass)) (sym more) inv.has));
    }

pub returns-clause-row : goal.returns-clause-row
returns-clause-row g c =
    let inv = c.loop-other.invariant in
    let t = c.loop-other.pass.ties in
    let all : length c.args.passes.items ≡ c.args.self.workers = sym c.args.passes.ok.0 ∙ c.requires.all in
    let size : c.args.self.capacity ≡ length (slots_items c.close_with.result.slots) = omega
    (arith, c.close_with.ensures.counts.1, (slots_counts c.close_with.result.slots).0, c.args.self.square.1) in
    let has = subst (λ k. HasTaken c.args.self.capacity (map told c.args.passes.items) k
    (known c.loop-other.pass)) c.in_default-pop.ensures.cases.0 inv.has in
    gathers (Some c.args.self.table.shared.key.root.value) c.args.self.workers c.loop-other.pass.seat.id (known c.loop-other.pass)
    (map told c.args.passes.items) (slots_items c.close_with.result.words) (slots_items c.close_with.result.slots)
    t.live t.idle (length-map c.args.passes.items told ∙ all)
    (subst (λ k. HasTaken k (map told c.args.passes.items) 0 (known c.loop-other.pass)) size has)
    (rw (sym c.args.self.setup) c.close_with.ensures.values.2)
