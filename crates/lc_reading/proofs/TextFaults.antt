-- Where a text has no JSON object.
use Rattle.std.proofs.Common.{◌≡◌, ◌∙◌, ℕ, List, Bool, true, sym, ap, subst, take, slice_get, inr, Option, Some}
use Rattle.std.specs.{Bool.MatchBool, Prelude.MatchOption, Str.{IsUtf8, Lossy.utf8_valid_len}}
use Rattle.lc_reading.specs.TextFaults.{HasNoObject, IsUnended, first_byte, is_brace, no_object}
use Rattle.lc_reading.specs.declared.read_fault.ReadFault.{ReadFault}

-- a text begins with a brace, and its first n bytes are not UTF-8
pub not_utf8 : (text front : List ℕ) (start first n valid : ℕ) (f : ReadFault) → Some first ≡ first_byte text
    → true ≡ is_brace (slice_get text first) → front ≡ take n text → (IsUtf8 front → ⊥) → valid ≡ utf8_valid_len front
    → f ≡ no_object start valid → HasNoObject text start f
not_utf8 text front start first n valid f found opens is bad valid_is fault_is =
    let ends : IsUnended text start f = inr (
      n,
      fault_is ∙ ap (no_object start) (valid_is ∙ ap utf8_valid_len is),
      λ whole. bad (subst IsUtf8 (sym is) whole),
    ) in
    subst (λ (o : Option ℕ). MatchOption o (f ≡ no_object start 0) (λ first.
    MatchBool (is_brace (slice_get text first)) (IsUnended text start f) (f ≡ no_object start first)))
    found (subst (λ (b : Bool). MatchBool b (IsUnended text start f) (f ≡ no_object start first)) opens ends)
