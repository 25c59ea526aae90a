-- Runs of reads, one after another.
use Rattle.std.proofs.Common.{◌≢◌, ℕ, zero, suc, ◌<◌, ◌≤◌, List, [], ◌∷◌, ◌++◌, length, take, arith, refl, sym, ap, subst, ◌∙◌}
use Rattle.std.proofs.lemmas.List.{append-nil, Folds.concat-append}
use Rattle.std.specs.List.{concat}
use Rattle.lc_io.specs.Reads.{Answer, gave, Stop, at_neither, MayRead, Stops, Reads, GivesBytes}

module _ {S : Type 0} (may_give : S → ℕ → Answer → S → Type 0) (IsRoom : ℕ → Type 0) where
  -- reads that went on, and then these reads
  pub reads_then : (pieces more : List (List ℕ)) (stop : Stop) (old middle new : S)
      → Reads may_give IsRoom old pieces at_neither middle → Reads may_give IsRoom middle more stop new
      → Reads may_give IsRoom old (pieces ++ more) stop new
  reads_then [] more stop old middle new same next = let P : S
      → Type 0 = λ s. Reads may_give IsRoom s more stop new in subst P (sym same) next
  reads_then (piece ∷ pieces) more stop old middle new reads next =
      (reads.0, reads.1, reads.2, reads_then pieces more stop reads.0 middle new reads.3 next)

  -- reads that went on, and then one more piece
  pub reads_more : (pieces : List (List ℕ)) (piece : List ℕ) (old middle new : S)
      → Reads may_give IsRoom old pieces at_neither middle → piece ≢ [] → MayRead may_give IsRoom middle (gave piece) new
      → Reads may_give IsRoom old (pieces ++ piece ∷ []) at_neither new
  reads_more pieces piece old middle new reads some read =
      reads_then pieces (piece ∷ []) at_neither old middle new reads (new, some, read, refl)

  -- reads that went on, and then stopped so
  pub reads_stop : (pieces : List (List ℕ)) (stop : Stop) (old middle new : S)
      → Reads may_give IsRoom old pieces at_neither middle → Stops may_give IsRoom middle stop new
      → Reads may_give IsRoom old pieces stop new
  reads_stop [] stop old middle new same next = let P : S → Type 0 = λ s. Stops may_give IsRoom s stop new in subst P (sym same) next
  reads_stop (piece ∷ pieces) stop old middle new reads next =
      (reads.0, reads.1, reads.2, reads_stop pieces stop reads.0 middle new reads.3 next)

  -- bytes that went on, and then one more piece
  pub gives_more : (bytes piece : List ℕ) (old middle new : S)
      → GivesBytes may_give IsRoom old bytes at_neither middle → piece ≢ [] → MayRead may_give IsRoom middle (gave piece) new
      → GivesBytes may_give IsRoom old (bytes ++ piece) at_neither new
  gives_more bytes piece old middle new so_far some read = record {
    pieces = so_far.pieces ++ piece ∷ [];
    reads = reads_more so_far.pieces piece old middle new so_far.reads some read;
    joined = concat-append so_far.pieces (piece ∷ [])
        ∙ (ap (λ l. concat so_far.pieces ++ l) (append-nil piece) ∙ ap (λ l. l ++ piece) so_far.joined);
  }

  -- bytes that went on, and then stopped so
  pub gives_stop : (bytes : List ℕ) (stop : Stop) (old middle new : S)
      → GivesBytes may_give IsRoom old bytes at_neither middle → Stops may_give IsRoom middle stop new
      → GivesBytes may_give IsRoom old bytes stop new
  gives_stop bytes stop old middle new so_far stops = record {
    pieces = so_far.pieces;
    reads = reads_stop so_far.pieces stop old middle new so_far.reads stops;
    joined = so_far.joined;
  }

-- the first n of some bytes are some
pub take_some : (n : ℕ) (xs : List ℕ) → 0 < n → n ≤ length xs → take n xs ≢ []
take_some zero xs some fits e = let no : ⊥ = omega arith in no
take_some (suc n) [] some fits e = let no : ⊥ = omega arith in no
take_some (suc n) (x ∷ xs) some fits e = cc
