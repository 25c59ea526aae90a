-- The parts of a pattern, lexeme by lexeme.
use Rattle.std.proofs.Common.{arith, ◌-◌, ◌≡◌, ℕ, zero, suc, List, [], ◌∷◌, ◌++◌, length, take, drop, Option, Some, None, refl, sym, ◌∙◌}
use Rattle.std.proofs.{Common.{ap, append_assoc}, lemmas.List.{take_rest, append-nil}}
use Rattle.lc_glob.specs.{Tokens.TokenModel, Reading.{LexemeModel, separator, one, lexeme, put, put_on, parts}}

-- parts that are done and tokens of the part at hand, before those found
abbrev pub join : List (List TokenModel) → List TokenModel → Option (List (List TokenModel)) → Option (List (List TokenModel))
join done at None = None
join done at (Some []) = None
join done at (Some (p ∷ ps)) = Some (done ++ ((at ++ p) ∷ ps))

-- a separator ends the part that was begun
pub join_separator : (done : List (List TokenModel)) (at : List TokenModel) (o : Option (List (List TokenModel)))
    → join done at (put separator o) ≡ join (done ++ at ∷ []) [] o
join_separator done at None = refl
join_separator done at (Some []) = refl
join_separator done at (Some (p ∷ ps)) =
    ap (λ (l : List TokenModel). Some (done ++ (l ∷ p ∷ ps))) (append-nil at) ∙ ap Some (sym (append_assoc done (at ∷ []) (p ∷ ps)))

-- another lexeme lengthens it
pub join_one : (done : List (List TokenModel)) (at : List TokenModel) (u : TokenModel) (o : Option (List (List TokenModel)))
    → join done at (put (one u) o) ≡ join done (at ++ u ∷ []) o
join_one done at u None = refl
join_one done at u (Some []) = refl
join_one done at u (Some (p ∷ ps)) = ap (λ (l : List TokenModel). Some (done ++ (l ∷ ps))) (sym (append_assoc at (u ∷ []) p))

-- bytes that belong to the lexeme before are passed over
pub parts_skip : (k : ℕ) (bs : List ℕ) → parts k bs ≡ parts 0 (drop k bs)
parts_skip zero bs = refl
parts_skip (suc k) [] = refl
parts_skip (suc k) (b ∷ bs) = parts_skip k bs

-- a lexeme, and then the parts of what it leaves
pub at_lexeme : (b : ℕ) (bs : List ℕ) (t : LexemeModel) (k : ℕ) → lexeme b bs ≡ Some (t, k) → parts 0 (b ∷ bs) ≡ put t (parts 0 (drop k bs))
at_lexeme b bs t k e = ap (λ (o : Option (LexemeModel × ℕ)). put_on o (λ j. parts j bs)) e ∙ ap (put t) (parts_skip k bs)

-- one lexeme more, a separator: what all parts are is what these are, joined with the rest
pub parts_separator : (all : Option (List (List TokenModel))) (done : List (List TokenModel)) (at : List TokenModel) (left : List ℕ)
    (b : ℕ) (bs : List ℕ) (t : LexemeModel) (k : ℕ) → all ≡ join done at (parts 0 left) → left ≡ b ∷ bs → lexeme b bs ≡ Some (t, k)
    → t ≡ separator → all ≡ join (done ++ at ∷ []) [] (parts 0 (take (length bs - k) (drop k bs)))
parts_separator all done at left b bs t k same cons e is =
    rw take_rest (same ∙ ap (λ (l : List ℕ). join done at (parts 0 l)) cons
    ∙ ap (join done at) (at_lexeme b bs t k e ∙ ap (λ (u : LexemeModel). put u (parts 0 (drop k bs))) is) ∙ join_separator done at
    (parts 0 (drop k bs)))

-- one lexeme more, a token: the same
pub parts_one : (all : Option (List (List TokenModel))) (done : List (List TokenModel)) (at : List TokenModel) (left : List ℕ) (b : ℕ)
    (bs : List ℕ) (t : LexemeModel) (u : TokenModel) (k : ℕ) → all ≡ join done at (parts 0 left) → left ≡ b ∷ bs
    → lexeme b bs ≡ Some (t, k) → t ≡ one u → all ≡ join done (at ++ u ∷ []) (parts 0 (take (length bs - k) (drop k bs)))
parts_one all done at left b bs t u k same cons e is =
    rw take_rest (same ∙ ap (λ (l : List ℕ). join done at (parts 0 l)) cons
    ∙ ap (join done at) (at_lexeme b bs t k e ∙ ap (λ (v : LexemeModel). put v (parts 0 (drop k bs))) is)
    ∙ join_one done at u (parts 0 (drop k bs)))

-- no lexeme more: all parts are those that are done, and the one at hand
pub parts_end : (all : Option (List (List TokenModel))) (done new : List (List TokenModel)) (at : List TokenModel) (left : List ℕ)
    → all ≡ join done at (parts 0 left) → length left ≡ 0 → new ≡ done ++ at ∷ [] → all ≡ Some new
parts_end all done new at [] same none e =
    same ∙ ap (λ (l : List TokenModel). Some (done ++ l ∷ [])) (append-nil at) ∙ ap Some (sym e)
parts_end all done new at (b ∷ bs) same none e = absurd (omega (arith, none))

join_put : (t : LexemeModel) (o : Option (List (List TokenModel))) → put t o ≡ join [] [] (put t o)
join_put t None = refl
join_put t (Some []) = refl
join_put separator (Some (p ∷ ps)) = refl
join_put (one u) (Some (p ∷ ps)) = refl

join_put_on : (o : Option (LexemeModel × ℕ)) (next : ℕ → Option (List (List TokenModel))) → put_on o next ≡ join [] [] (put_on o next)
join_put_on None next = refl
join_put_on (Some t) next = join_put t.0 (next t.1)

-- at first nothing is joined
pub join_start : (bytes : List ℕ) → parts 0 bytes ≡ join [] [] (parts 0 bytes)
join_start [] = refl
join_start (b ∷ bs) = join_put_on (lexeme b bs) (λ j. parts j bs)
