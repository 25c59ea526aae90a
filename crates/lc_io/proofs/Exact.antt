-- Readers of which it is known what they give: these bytes, in whatever pieces, and then the end or a failure.
use Rattle.std.proofs.Common.{◌≡◌, ℕ, ◌<◌, Bool, true, false, List, [], ◌∷◌, ◌++◌, sym, ap, subst, ◌∙◌, append_assoc}
use Rattle.std.specs.List.{concat}
use Rattle.lc_io.specs.Reads.{Answer, gave, failed, Stop, at_end, at_failure, at_neither, Reads, GivesBytes}

-- a read gives the first of the rest, and at the rest's end either the end or a failure
pub record IsExact {S : Type 0} (may_give : S → ℕ → Answer → S → Type 0) (rest : S → List ℕ) (fails : S → Bool) : Type 0 where
  -- a piece is what is read next
  pub piece : (old new : S) (room : ℕ) (piece : List ℕ) → may_give old room (gave piece) new
      → (rest old ≡ piece ++ rest new) × (fails old ≡ fails new)
  -- an end comes where nothing is left and the reader doesn't fail
  pub end : (old new : S) (room : ℕ) → 0 < room → may_give old room (gave []) new → (rest old ≡ []) × (fails old ≡ false)
  -- a failure comes where nothing is left and it does
  pub failure : (old new : S) (room : ℕ) → may_give old room failed new → (rest old ≡ []) × (fails old ≡ true)

-- what such reads gave, by how they stopped, of a rest that fails or not
abbrev pub AreGiven : List ℕ → Bool → List ℕ → Stop → List ℕ → Bool → Type 0
AreGiven rest fails bytes at_end left fail = (rest ≡ bytes) × (fails ≡ false)
AreGiven rest fails bytes at_failure left fail = (rest ≡ bytes) × (fails ≡ true)
AreGiven rest fails bytes at_neither left fail = (rest ≡ bytes ++ left) × (fails ≡ fail)

one_before : (piece rest middle bytes left : List ℕ) (fails mid fail : Bool) (stop : Stop) → rest ≡ piece ++ middle → fails ≡ mid
    → AreGiven middle mid bytes stop left fail
    → AreGiven rest fails (piece ++ bytes) stop left fail
one_before piece rest middle bytes left fails mid fail at_end e f given = (e ∙ ap (λ t. piece ++ t) given.0, f ∙ given.1)
one_before piece rest middle bytes left fails mid fail at_failure e f given = (e ∙ ap (λ t. piece ++ t) given.0, f ∙ given.1)
one_before piece rest middle bytes left fails mid fail at_neither e f given =
    (e ∙ ap (λ t. piece ++ t) given.0 ∙ sym (append_assoc piece bytes left), f ∙ given.1)

module _ {S : Type 0} (may_give : S → ℕ → Answer → S → Type 0) (rest : S → List ℕ) (fails : S → Bool)
    (exact : IsExact may_give rest fails) (IsRoom : ℕ → Type 0) where
  none_before : (stop : Stop) (old new : S) → Reads may_give IsRoom old [] stop new
      → AreGiven (rest old) (fails old) [] stop (rest new) (fails new)
  none_before at_end old new read = exact.end old new read.0 read.1 read.3
  none_before at_failure old new read = exact.failure old new read.0 read.3
  none_before at_neither old new same = (ap rest same, ap fails same)

  -- what reads gave is the bytes up to some place, and the end or the failure only where nothing is left
  pub pieces_given : (pieces : List (List ℕ)) (stop : Stop) (old new : S) → Reads may_give IsRoom old pieces stop new
      → AreGiven (rest old) (fails old) (concat pieces) stop (rest new) (fails new)
  pieces_given [] stop old new reads = none_before stop old new reads
  pieces_given (piece ∷ pieces) stop old new reads =
      let first = exact.piece old reads.0 reads.2.0 piece reads.2.3 in
      one_before piece (rest old) (rest reads.0) (concat pieces) (rest new) (fails old) (fails reads.0)
      (fails new) stop first.0 first.1 (pieces_given pieces stop reads.0 new reads.3)

  -- the bytes that such reads gave
  pub bytes_given : (old new : S) (bytes : List ℕ) (stop : Stop) → GivesBytes may_give IsRoom old bytes stop new
      → AreGiven (rest old) (fails old) bytes stop (rest new) (fails new)
  bytes_given old new bytes stop run =
      let P : List ℕ → Type 0 = λ t. AreGiven (rest old) (fails old) t stop (rest new) (fails new) in
      subst P run.joined (pieces_given run.pieces stop old new run.reads)
