-- The words that the program reads, by those that were typed.
use Rattle.std.specs.Prelude.{◌≡◌, ◌⊎◌, ℕ, Bool, true, false, cond, List, [], ◌∷◌, Option, Some, None, codes}
use Rattle.lc_arguments.specs.Naming.{may_be_directory}
use Rattle.lc_program.specs.declared.unread_reason.UnreadReason.{UnreadReason, TheVariants.Denied}

-- a word is the name of a directory, by the reason why a directory of this name can't be listed, if there is one
abbrev pub is_directory_by : Option UnreadReason → Bool
is_directory_by None = true
is_directory_by (Some Denied) = true
is_directory_by (Some why) = false

module _ (may_unlist : List ℕ → Option UnreadReason → Type 0) where
  -- whether the first word is a directory that begins a count: it may be one, and it is one by the system's answer
  abbrev pub Begins : List (List ℕ) → Bool → Type 0
  Begins [] begins = begins ≡ false
  Begins (word ∷ words) begins =
      ((may_be_directory (word ∷ words) ≡ false) × (begins ≡ false))
      ⊎ ((may_be_directory (word ∷ words) ≡ true)
      × ((why : Option UnreadReason) × may_unlist word why × (begins ≡ is_directory_by why)))

  -- words are read so: as they were typed, or after `count` if they begin with a directory
  abbrev pub AreReadAs : List (List ℕ) → List (List ℕ) → Type 0
  AreReadAs typed words = (begins : Bool) × Begins typed begins × (words ≡ cond begins (codes "count" ∷ typed) typed)
