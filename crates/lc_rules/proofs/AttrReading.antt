-- How attribute lines are read, from the front.
use Rattle.std.proofs.Common.{◌≡◌, ◌<◌, ◌+◌, ◌-◌, ℕ, zero, suc, false, cond, nat_eq, List, [], ◌∷◌, ◌++◌, length, take, drop, Option}
use Rattle.std.proofs.Common.{Some, None, refl, sym, ◌∙◌, ap, arith, append_assoc, not, ◌&&◌, lt-ltb}
use Rattle.std.proofs.lemmas.{Bool.{Decides.Decides-eqb, le-ltb, false_from_ne_true}, List.take_rest}
use Rattle.std.specs.List.{position_or_len, before_first, after_first, list_all}
use Rattle.memchr.specs.Find.{IsFirstByte, is_byte}
use Rattle.lc_rules.specs.{Attributes.{set, value}, AttrWords.{plain_assign, named, is_name, is_name_byte}, AttrQuotes.{unquoted, put_byte}}
use Rattle.lc_rules.specs.AttrQuotes.{put_escape, escape}
use Rattle.lc_glob.specs.Pieces.{is_byte as at_byte}
use Rattle.lc_glob.proofs.FirstByte.{place_none, place_some, place_below}

-- text before the rest of a quoted text
abbrev pub onto_text : List ℕ → Option (List ℕ × List ℕ) → Option (List ℕ × List ℕ)
onto_text text None = None
onto_text text (Some r) = Some (text ++ r.0, r.1)

-- one byte more of the text
pub text_byte : (text : List ℕ) (b : ℕ) (o : Option (List ℕ × List ℕ)) → onto_text text (put_byte b o) ≡ onto_text (text ++ (b ∷ [])) o
text_byte text b None = refl
text_byte text b (Some r) = ap (λ l. Some (l, r.1)) (sym (append_assoc text (b ∷ []) r.0))

-- bytes that belong to an escape before are passed over
pub unquoted_skip : (k : ℕ) (bytes : List ℕ) → unquoted k bytes ≡ unquoted 0 (drop k bytes)
unquoted_skip zero bytes = refl
unquoted_skip (suc k) [] = refl
unquoted_skip (suc k) (b ∷ bs) = unquoted_skip k bs

ne_false : (a b : ℕ) → (a ≡ b → ⊥) → nat_eq a b ≡ false
ne_false a b h = false_from_ne_true (nat_eq a b) (λ t. h ((Decides-eqb a b).0 t))

-- a byte that is neither a quote nor a backslash stands for itself
pub text_plain : (text more left rest : List ℕ) (b : ℕ) → left ≡ b ∷ rest → (b ≡ 34 → ⊥) → (b ≡ 92 → ⊥) → more ≡ text ++ (b ∷ [])
    → onto_text text (unquoted 0 left) ≡ onto_text more (unquoted 0 rest)
text_plain text more left rest b e q s m =
    ap (λ l. onto_text text (unquoted 0 l)) e
    ∙ ap (λ t. onto_text text (cond t (Some ([], rest))
    (cond (nat_eq b 92) (put_escape (escape rest) (λ k. unquoted k rest)) (put_byte b (unquoted 0 rest))))) (ne_false b 34 q)
    ∙ ap (λ t. onto_text text (cond t (put_escape (escape rest) (λ k. unquoted k rest)) (put_byte b (unquoted 0 rest)))) (ne_false b 92 s)
    ∙ text_byte text b (unquoted 0 rest) ∙ ap (λ t. onto_text t (unquoted 0 rest)) (sym m)

-- an escape stands for its byte
pub text_escape : (text more left rest : List ℕ) (b byte taken : ℕ) → left ≡ b ∷ rest → b ≡ 92 → escape rest ≡ Some (byte, taken)
    → more ≡ text ++ (byte ∷ []) → onto_text text (unquoted 0 left) ≡ onto_text more
    (unquoted 0 (take (length rest - taken) (drop taken rest)))
text_escape text more left rest b byte taken e s k m =
    ap (λ l. onto_text text (unquoted 0 l)) (e ∙ ap (λ c. c ∷ rest) s)
    ∙ ap (λ o. onto_text text (put_escape o (λ k. unquoted k rest))) k
    ∙ text_byte text byte (unquoted taken rest) ∙ ap (onto_text (text ++ (byte ∷ []))) (unquoted_skip taken rest)
    ∙ ap (λ t. onto_text t (unquoted 0 (drop taken rest))) (sym m)
    ∙ ap (λ l. onto_text more (unquoted 0 l)) (sym (take_rest rest taken))

-- a word without an equals sign is an attribute that is Set
pub plain_none : (w : List ℕ) → IsFirstByte (is_byte 61) w None → plain_assign w ≡ named w set
plain_none w h = ap (λ t. cond t (named (before_first (at_byte 61) w) (value (after_first (at_byte 61) w))) (named w set))
    (le-ltb (position_or_len (at_byte 61) w) (length w) (omega (arith, place_none 61 w h)))

-- one with an equals sign is an attribute with the value behind it
pub plain_some : (w : List ℕ) (i : ℕ) → IsFirstByte (is_byte 61) w (Some i)
    → plain_assign w ≡ named (take i w) (value (take (length w - (i + 1)) (drop (i + 1) w)))
plain_some w i h =
    let below : i < length w = place_below 61 w i h in
    ap (λ t. cond t (named (before_first (at_byte 61) w) (value (after_first (at_byte 61) w))) (named w set))
    (lt-ltb (position_or_len (at_byte 61) w) (length w) (omega (arith, place_some 61 w i h)))
    ∙ rw take_rest (ap (λ n. named (take n w) (value (drop (n + 1) w))) (place_some 61 w i h))

-- a name that doesn't begin with a hyphen is one where each byte may stand in a name
pub name_is : (name rest : List ℕ) (b : ℕ) → name ≡ b ∷ rest → (b ≡ 45 → ⊥) → is_name name ≡ list_all is_name_byte name
name_is name rest b e h =
    ap is_name e ∙ ap (λ t. not t && list_all is_name_byte (b ∷ rest)) (ne_false b 45 h) ∙ ap (list_all is_name_byte) (sym e)
