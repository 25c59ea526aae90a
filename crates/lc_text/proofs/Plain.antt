-- Bytes that are printed as they are.
use Rattle.std.proofs.{Common.{◌≡◌, ℕ, Bool, true, false, not, ◌&&◌, nat_eq, List, [], ◌∷◌, ◌++◌, refl, ap₂}, lemmas.Bool.and_parts}
use Rattle.std.specs.List.{list_all}
use Rattle.lc_glob.specs.Bytes.{backslash}
use Rattle.lc_text.specs.Escape.{is_control, is_plain, escape_byte, escape_bytes}

plain_byte : (b : ℕ) → is_plain b ≡ true → escape_byte b ≡ b ∷ []
plain_byte b e = at (nat_eq b backslash) (is_control b) refl refl e
  where
    at : (q c : Bool) → nat_eq b backslash ≡ q → is_control b ≡ c → (not q && not c) ≡ true → escape_byte b ≡ b ∷ []
    at true c x y t = absurd (cc)
    at false true x y t = absurd (cc)
    at false false x y t = rw (x, y) refl

-- an `escape` of plain bytes alone changes nothing
pub escape_bytes-plain : (bytes : List ℕ) → list_all is_plain bytes ≡ true → escape_bytes bytes ≡ bytes
escape_bytes-plain [] e = refl
escape_bytes-plain (b ∷ bs) e =
    let parts = and_parts (is_plain b) (list_all is_plain bs) e in
    ap₂ (λ x y. x ++ y) (plain_byte b parts.0) (escape_bytes-plain bs parts.1)
