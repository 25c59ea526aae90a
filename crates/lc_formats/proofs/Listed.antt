-- What a list is written as, one element at a time.
use Rattle.std.proofs.Common.{◌≡◌, ℕ, ◌+◌, ◌<◌, List, [], ◌∷◌, ◌++◌, length, take, get_or, sym, ap, ◌∙◌, append_assoc, append-nil}
use Rattle.std.proofs.lemmas.List.{take_more, Concat.flat_map-append}
use Rattle.std.specs.List.{flat_map}

-- the first elements and the one that was read
read_more : {X : Type 0} (xs : List X) (i : ℕ) (x : X) → i < length xs → x ≡ get_or xs i x → take (i + 1) xs ≡ take i xs ++ x ∷ []
read_more xs i x within read = take_more xs i x within ∙ ap (λ e. take i xs ++ e ∷ []) (sym read)

-- appended to what was written before
pub appended_more : {A : Type 0} (initial front own now next : List A) → now ≡ initial ++ front → next ≡ now ++ own
    → next ≡ initial ++ (front ++ own)
appended_more initial front own now next so_far more = more ∙ ap (λ l. l ++ own) so_far ∙ append_assoc initial front own

-- one element more is written
pub one_written : {X A : Type 0} (f : X → List A) (xs : List X) (i : ℕ) (x : X) (initial now next : List A) → i < length xs
    → x ≡ get_or xs i x → now ≡ initial ++ flat_map f (take i xs) → next ≡ now ++ f x
    → next ≡ initial ++ flat_map f (take (i + 1) xs)
one_written f xs i x initial now next within read so_far more =
    appended_more initial (flat_map f (take i xs)) (f x) now next so_far more
    ∙ ap (λ l. initial ++ l) (sym (ap (flat_map f) (read_more xs i x within read) ∙ flat_map-append f (take i xs) (x ∷ [])
    ∙ ap (λ l. flat_map f (take i xs) ++ l) (append-nil (f x))))
