-- A list of values that is no list of bytes.
use Rattle.std.proofs.Common.{◌≡◌, ◌≢◌, ◌<◌, ◌^◌, ◌∙◌, ℕ, List, [], ◌∷◌, length, map, get_or, decimal, sym, ap, refl, arith}
use Rattle.std.proofs.lemmas.List.{get_or-map, length-map}
use Rattle.json.specs.{Json.{Json, null, number, array}, Value.{items_of, value_view}}
use Rattle.json.specs.declared.value.Value.{Value}
use Rattle.lc_reading.proofs.Decimals.{same_number}
use Rattle.lc_reading.specs.{Members.{bytes_json, values_of}, StateFaults.AreBytes}

same_items : (vs ws : List Json) → items_of vs ≡ items_of ws → vs ≡ ws
same_items [] [] e = refl
same_items [] (w ∷ ws) e = absurd (cc)
same_items (v ∷ vs) [] e = absurd (cc)
same_items (v ∷ vs) (w ∷ ws) e =
    let first : v ≡ w = cc in let others : items_of vs ≡ items_of ws = cc in
    let rest : vs ≡ ws = same_items vs ws others in cc

-- the value at this place is no byte
pub no_listed_bytes : {A : Type 0} (vs : List (Value A)) (at : ℕ) (v : Value A) → at < length vs → get_or vs at v ≡ v
    → ((b : ℕ) → b < 2 ^ 8 → value_view v ≢ number (decimal b))
    → (bytes : List ℕ) → AreBytes bytes → values_of vs ≢ map (λ b. number (decimal b)) bytes
no_listed_bytes vs at v within is none bytes are e =
    let long : length (values_of vs) ≡ length (map (λ b. number (decimal b)) bytes) = ap (λ (js : List Json). length js) e in
    let there : length (map (λ b. number (decimal b)) bytes) ≡ length bytes = length-map bytes (λ b. number (decimal b)) in
    let here : length (values_of vs) ≡ length vs = length-map vs value_view in
    let fits : at < length bytes = omega (arith, long, there, here, within) in
    none (get_or bytes at 0) (are at 0 fits)
    (ap value_view (sym is) ∙ sym (get_or-map value_view vs at v null within) ∙ ap (λ (js : List Json). get_or js at null) e
    ∙ get_or-map (λ b. number (decimal b)) bytes at 0 null fits)

pub no_bytes_in : (vs : List Json) → ((bytes : List ℕ) → AreBytes bytes → vs ≢ map (λ b. number (decimal b)) bytes)
    → (bytes : List ℕ) → AreBytes bytes → array (items_of vs) ≢ bytes_json bytes
no_bytes_in vs none bytes are e =
    let items : items_of vs ≡ items_of (map (λ b. number (decimal b)) bytes) = cc in
    none bytes are (same_items vs (map (λ b. number (decimal b)) bytes) items)

-- a number that is no byte is no byte's
pub no_byte : (text : List ℕ) (n b : ℕ) → text ≡ decimal n → n < 2 ^ 128 → (n < 2 ^ 8 → ⊥) → b < 2 ^ 8 → number text ≢ number (decimal b)
no_byte text n b is fits large small e =
    let same : text ≡ decimal b = cc in
    let equal : n ≡ b = same_number n b fits (omega arith) (sym is ∙ same) in
    large (omega (arith, equal))
