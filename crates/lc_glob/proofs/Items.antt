-- The items of a bracket.
use Rattle.std.proofs.Common.{length-drop, not, ◌&&◌, ◌||◌, add-zero, nat_eq, ◌≡◌, ◌<◌, ◌≤◌, ◌+◌, ◌-◌, ℕ, zero, suc, Bool, true, false}
use Rattle.std.proofs.Common.{cond, List, [], ◌∷◌, ◌++◌, length, take, drop, Option, Some, None, refl, sym, ◌∙◌, ap, arith, append_assoc}
use Rattle.std.proofs.lemmas.{List.{take_rest, append-nil, map-append, Sums.position_or_len_is}, Bool.false_from_ne_true}
use mir.Val.{bool_byte}
use Rattle.std.specs.List.{position_or_len}
use Rattle.memchr.specs.Find.{IsFirstByte, is_byte}
use Rattle.lc_glob.specs.Brackets.{element, range_from, from_element, plain_item, item, as_set, bracket, items, items_on, taken_more}
use Rattle.lc_glob.specs.{TokenLists.range_tokens, Pushes.{Pushes, kept_tokens}, Tokens.class, declared.token.Token.Token}
use Rattle.lc_glob.specs.declared.token.Token.TheVariants.{Open, Range}

-- an item that is no class: an element, and perhaps a range from it
pub plain_is : (b x used : ℕ) (rest : List ℕ) (found : Option (List (ℕ × ℕ) × ℕ)) → element b rest ≡ Some (x, used)
    → range_from x used (take (length rest - used) (drop used rest)) ≡ found → plain_item b rest ≡ found
plain_is b x used rest found e r = ap (λ (o : Option (ℕ × ℕ)). from_element o rest) e ∙ (rw take_rest at r)

-- the place that a search finds is the first of the byte
pub first_some : (c : ℕ) (bytes : List ℕ) (i : ℕ) → IsFirstByte (is_byte c) bytes (Some i) → i ≡ position_or_len (λ b. nat_eq b c) bytes
first_some c bytes i h =
    let p = λ (b : ℕ). nat_eq b c in
    let below : i < length bytes = h.0.high in
    sym (position_or_len_is p bytes i 0 (omega arith) (λ k l. false_from_ne_true _ (h.0.before k (omega arith) l)) (λ _. h.1))

-- where it finds none that place is the end
pub first_none : (c : ℕ) (bytes : List ℕ) → IsFirstByte (is_byte c) bytes None → length bytes ≡ position_or_len (λ b. nat_eq b c) bytes
first_none c bytes h =
    let p = λ (b : ℕ). nat_eq b c in
    sym (position_or_len_is p bytes (length bytes) 0 (omega arith) (λ k l. false_from_ne_true _ (h k (omega arith) l))
    (λ l. absurd (omega arith)))

-- ranges before those found, and n bytes before those taken
abbrev pub prepend : List (ℕ × ℕ) → ℕ → Option (List (ℕ × ℕ) × ℕ) → Option (List (ℕ × ℕ) × ℕ)
prepend ranges n None = None
prepend ranges n (Some r) = Some (ranges ++ r.0, n + r.1)

prepend_more : (a b : List (ℕ × ℕ)) (n : ℕ) (o : Option (List (ℕ × ℕ) × ℕ)) → prepend a n (taken_more b o) ≡ prepend (a ++ b) (n + 1) o
prepend_more a b n None = refl
prepend_more a b n (Some r) =
    let e : n + suc r.1 ≡ (n + 1) + r.1 = omega arith in
    ap (λ (l : List (ℕ × ℕ)). Some (l, n + suc r.1)) (sym (append_assoc a b r.0)) ∙ ap (λ (k : ℕ). Some ((a ++ b) ++ r.0, k)) e

-- bytes that are passed over
pub items_skip : (first : Bool) (k : ℕ) (bs : List ℕ) (a : List (ℕ × ℕ)) (n : ℕ)
    → prepend a n (items first k bs) ≡ prepend a (n + k) (items first 0 (drop k bs))
items_skip first zero bs a n = ap (λ (m : ℕ). prepend a m (items first 0 bs)) (sym (add-zero n))
items_skip first (suc k) [] a n = refl
items_skip first (suc k) (b ∷ bs) a n =
    let e : (n + 1) + k ≡ n + suc k = omega arith in
    prepend_more a [] n (items first k bs) ∙ ap (λ (l : List (ℕ × ℕ)). prepend l (n + 1) (items first k bs)) (append-nil a)
    ∙ items_skip first k bs a (n + 1) ∙ ap (λ (m : ℕ). prepend a m (items first 0 (drop k bs))) e

-- the items of bytes, by the first of them
pub at_item : (first : Bool) (b : ℕ) (bs : List ℕ) (more : List (ℕ × ℕ)) (k : ℕ) (a : List (ℕ × ℕ)) (n : ℕ)
    → (nat_eq b 93 && not first) ≡ false → item b bs ≡ Some (more, k)
    → prepend a n (items first 0 (b ∷ bs)) ≡ prepend (a ++ more) (n + 1 + k) (items false 0 (drop k bs))
at_item first b bs more k a n t e =
    let next = λ (j : ℕ). items false j bs in
    let step : items first 0 (b ∷ bs) ≡ taken_more more (items false k bs) = ap (λ (u : Bool). items_on u (item b bs) next) t
    ∙ ap (λ (o : Option (List (ℕ × ℕ) × ℕ)). items_on false o next) e in
    ap (prepend a n) step ∙ prepend_more a more n (items false k bs) ∙ items_skip false k bs (a ++ more) (n + 1)

-- the ranges that were pushed: what all items give is those before what the rest gives
abbrev pub HavePushed : Option (List (ℕ × ℕ) × ℕ) → List Token → List Token → ℕ → Bool → List ℕ → Type 0
HavePushed all old new taken first left =
    (ranges : List (ℕ × ℕ)) × (new ≡ old ++ range_tokens ranges) × (all ≡ prepend ranges taken (items first 0 left))

-- at any other
pub items_step : (all : Option (List (ℕ × ℕ) × ℕ)) (old new newer : List Token) (first : Bool) (left : List ℕ) (b : ℕ) (rest : List ℕ)
    (k len : ℕ) → HavePushed all old new (len - length left) first left → left ≡ b ∷ rest → length left ≤ len
    → (nat_eq b 93 && not first) ≡ false → Pushes range_tokens (item b rest) new newer (Some k) → k ≤ length rest
    → HavePushed all old newer (len - length (take (length rest - k) (drop k rest))) false (take (length rest - k) (drop k rest))
items_step all old new newer first left b rest k len has cons within more is fits =
    let n : len - length left + 1 + k ≡ len - length (drop k rest) = simp length-drop (omega (arith, ap length cons)) in (
      has.0 ++ is.0,
      is.2 ∙ ap (λ (ts : List Token). ts ++ range_tokens is.0) has.1 ∙ append_assoc old (range_tokens has.0) (range_tokens is.0)
          ∙ ap (λ (ts : List Token). old ++ ts) (sym (map-append (λ (r : ℕ × ℕ). Range r.0 r.1) has.0 is.0)),
      rw take_rest
          (has.2 ∙ ap (λ (l : List ℕ). prepend has.0 (len - length left) (items first 0 l)) cons
          ∙ at_item first b rest is.0 k has.0 (len - length left) more is.1
          ∙ ap (λ (m : ℕ). prepend (has.0 ++ is.0) m (items false 0 (drop k rest))) n),
    )

-- the set of the ranges that were found after an opening
pub set_pushed : (negated : Bool) (more : ℕ) (found : Option (List (ℕ × ℕ) × ℕ)) (old opened new : List Token) (taken : ℕ)
    → opened ≡ old ++ Open negated ∷ [] → Pushes range_tokens found opened new (Some taken)
    → Pushes kept_tokens (as_set negated more found) old new (Some (more + taken))
set_pushed negated more found old opened new taken e is = (
  class negated is.0,
  ap (as_set negated more) is.1,
  is.2 ∙ ap (λ (ts : List Token). ts ++ range_tokens is.0) e ∙ append_assoc old (Open negated ∷ []) (range_tokens is.0),
)

bracket_of : (bytes rest : List ℕ) (b : ℕ) (negated : Bool) → bytes ≡ b ∷ rest → (nat_eq b 33 || nat_eq b 94) ≡ negated
    → bracket bytes ≡ cond negated (as_set true 1 (items true 0 rest)) (as_set false 0 (items true 0 (b ∷ rest)))
bracket_of bytes rest b negated e first =
    ap bracket e ∙ ap (λ (t : Bool). cond t (as_set true 1 (items true 0 rest)) (as_set false 0 (items true 0 (b ∷ rest)))) first

-- so a bracket, by its first byte
pub bracket_pushed : (bytes rest left : List ℕ) (b : ℕ) (negated : Bool) (old opened new : List Token) (taken n : ℕ) → bytes ≡ b ∷ rest
    → (nat_eq b 33 || nat_eq b 94) ≡ negated → left ≡ cond negated rest bytes → n ≡ bool_byte negated
    → opened ≡ old ++ Open negated ∷ [] → Pushes range_tokens (items true 0 left) opened new (Some taken)
    → Pushes kept_tokens (bracket bytes) old new (Some (taken + n))
bracket_pushed bytes rest left b true old opened new taken n e first is one more pushed =
    let set = set_pushed true 1 (items true 0 left) old opened new taken more pushed in
    let count : 1 + taken ≡ taken + n = omega (arith, one) in (
      set.0,
      bracket_of bytes rest b true e first ∙ ap (λ (l : List ℕ). as_set true 1 (items true 0 l)) (sym is) ∙ set.1
          ∙ ap (λ (k : ℕ). Some (set.0, k)) count,
      set.2,
    )
bracket_pushed bytes rest left b false old opened new taken n e first is none more pushed =
    let set = set_pushed false 0 (items true 0 left) old opened new taken more pushed in
    let count : 0 + taken ≡ taken + n = omega (arith, none) in (
      set.0,
      bracket_of bytes rest b false e first ∙ ap (λ (l : List ℕ). as_set false 0 (items true 0 l)) (sym (is ∙ e)) ∙ set.1
          ∙ ap (λ (k : ℕ). Some (set.0, k)) count,
      set.2,
    )
