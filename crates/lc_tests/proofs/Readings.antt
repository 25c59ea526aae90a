-- What the reads of one file give, by those of another.
use Rattle.std.proofs.Common.{◌≡◌, ℕ, ◌<◌, ◌⊎◌, inl, inr, List, [], ◌∷◌, min, refl, ap, sym, arith}
use Rattle.lc_io.specs.Reads.{Answer, MayRead, Reads, Stop, at_end, at_failure, at_neither, gave, failed}
use Rattle.lc_tests.specs.FailingTrees.{MayFail, GivesOrFails}
use Rattle.lc_tree.specs.Trees.{Contents, GivesOnly, IsRoom, Rooms}

-- each read of the one, as f sees it, is a read of the other, into buffers of these lengths
abbrev pub Follows : {S R : Type 0} → (S → R) → (S → ℕ → Answer → S → Type 0) → (R → ℕ → Answer → R → Type 0) → (rooms rooms' : Rooms)
    → Type 0
Follows {S} {R} f may_give may_give' rooms rooms' =
    (old new : S) (answer : Answer) → MayRead may_give (IsRoom rooms) old answer new
    → MayRead may_give' (IsRoom rooms') (f old) answer (f new)

module _ {S R : Type 0} (f : S → R) (may_give : S → ℕ → Answer → S → Type 0) (may_give' : R → ℕ → Answer → R → Type 0)
    (rooms rooms' : Rooms) (follows : Follows f may_give may_give' rooms rooms') where
  pub reads_follow : (old new : S) (pieces : List (List ℕ)) (stop : Stop) → Reads may_give (IsRoom rooms) old pieces stop new
      → Reads may_give' (IsRoom rooms') (f old) pieces stop (f new)
  reads_follow old new [] at_end reads = follows old new (gave []) reads
  reads_follow old new [] at_failure reads = follows old new failed reads
  reads_follow old new [] at_neither reads = ap f reads
  reads_follow old new (piece ∷ pieces) stop reads =
      (f reads.0, reads.1, follows old reads.0 (gave piece) reads.2, reads_follow reads.0 new pieces stop reads.3)

-- less room in a buffer is still some
pub some_of_one : (room : ℕ) → 0 < room → 0 < min room 1
some_of_one room some = omega arith

module _ {F : Type 0} (may_give : F → ℕ → Answer → F → Type 0) (rooms : Rooms) where
  -- reads as the file gives them, or such and then a fault
  abbrev ReadsOrFails : F → List (List ℕ) → Stop → F → Type 0
  ReadsOrFails old pieces stop new =
      Reads may_give (IsRoom rooms) old pieces stop new ⊎ ((stop ≡ at_failure) × Reads may_give (IsRoom rooms) old pieces at_neither new)

  reads_or_fails : (old new : F) (pieces : List (List ℕ)) (stop : Stop) → Reads (MayFail may_give) (IsRoom rooms) old pieces stop new
      → ReadsOrFails old pieces stop new
  reads_or_fails old new [] at_end reads = inl reads
  reads_or_fails old new [] at_neither reads = inl reads
  reads_or_fails old new [] at_failure reads = last reads.3
    where
      last : may_give old reads.0 failed new ⊎ (new ≡ old) → ReadsOrFails old [] at_failure new
      last (inl given) = inl (reads.0, reads.1, reads.2, given)
      last (inr same) = inr (refl, sym same)
  reads_or_fails old new (piece ∷ pieces) stop reads = before (reads_or_fails reads.0 new pieces stop reads.3)
    where
      before : ReadsOrFails reads.0 pieces stop new → ReadsOrFails old (piece ∷ pieces) stop new
      before (inl rest) = inl (reads.0, reads.1, reads.2, rest)
      before (inr failing) = inr (failing.0, (reads.0, reads.1, reads.2, failing.1))

  -- a file whose reads may fail gives what it gave, or fails
  pub gives_or_fails : (gives : Contents) (file left : F) (pieces : List (List ℕ)) (stop : Stop) → GivesOnly may_give gives file
      → Reads (MayFail may_give) (IsRoom rooms) file pieces stop left → GivesOrFails gives rooms pieces stop
  gives_or_fails gives file left pieces stop only reads = by_stop pieces stop (reads_or_fails file left pieces stop reads)
    where
      by_stop : (pieces : List (List ℕ)) (stop : Stop) → ReadsOrFails file pieces stop left → GivesOrFails gives rooms pieces stop
      by_stop pieces at_end (inl given) = only rooms pieces at_end left given
      by_stop pieces at_end (inr failing) = absurd (cc)
      by_stop pieces at_neither (inl given) = only rooms pieces at_neither left given
      by_stop pieces at_neither (inr failing) = absurd (cc)
      by_stop [] at_failure either = tt
      by_stop (piece ∷ pieces) at_failure (inl given) = inl (only rooms (piece ∷ pieces) at_failure left given)
      by_stop (piece ∷ pieces) at_failure (inr failing) = inr (only rooms (piece ∷ pieces) at_neither left failing.1)
