use Rattle.std.proofs.Common.{ap, sym, ◌∙◌, inl, inr, map, ℕ, List}
use Rattle.lc_glob.specs.{Path.segments_of, Patterns.SegmentModel, Pieces.is_byte, Simple.byte_token}
use Rattle.lc_glob.proofs.EndLooks.{look_at_path, look_at_name, bytes_keep, ends_keep, exact_keep, KeepsEnds}
use Rattle.lc_glob.proofs.simple_pattern.SimplePattern.agrees.Goals as goal

pub returns-in-LastSegment-clause-told : goal.returns-in-LastSegment-clause-told
returns-in-LastSegment-clause-told c =
    let look = look_at_name c.args.self.bytes.now c.args.path.now _ _ _ _ _ (ap segments_of (sym c.path.view_is) ∙ c.path.invariant.0)
    c.agrees_at_end.ensures.told c.agrees_at_end.ensures.cost in
    rw c.in-LastSegment.is (λ m. look.0 m.2)

pub returns-in-LastSegment-clause-cost : goal.returns-in-LastSegment-clause-cost
returns-in-LastSegment-clause-cost c =
    let look = look_at_name c.args.self.bytes.now c.args.path.now _ _ _ _ _ (ap segments_of (sym c.path.view_is) ∙ c.path.invariant.0)
    c.agrees_at_end.ensures.told c.agrees_at_end.ensures.cost in
    rw c.in-LastSegment.is look.1

pub returns-in-Exact : goal.returns-in-Exact
returns-in-Exact c =
    let look = λ (segment : List ℕ → SegmentModel) (keeps : KeepsEnds (map byte_token) (is_byte 47) segment).
    look_at_path (map byte_token) (is_byte 47) segment keeps c.args.self.bytes.now c.args.path.now _ _ _ _ _
    (ap segments_of (sym c.path.view_is) ∙ c.path.invariant.0) (rw c.whole.ensures at c.agrees_at_end-in-Exact.ensures.told)
    c.agrees_at_end-in-Exact.ensures.cost in
    elim c.in-Exact.is [
      | inl is ↦ rw is record { told = λ m. (look _ exact_keep).0 m.2; cost = (look _ exact_keep).1 }
      | inr (inl is) ↦ rw is record { told = λ m. (look _ ends_keep).0 m.2; cost = (look _ ends_keep).1 }
      | inr (inr is) ↦ rw is record { told = λ m. (look _ bytes_keep).0 m.2; cost = (look _ bytes_keep).1 }
    ]
