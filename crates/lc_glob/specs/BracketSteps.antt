-- What the steps through a bracket find.
use Rattle.std.specs.Prelude.{ℕ, ◌≡◌, ◌+◌, ◌-◌, true, false, List, take, Some, None}
use Rattle.lc_glob.specs.{Brackets.{class_of, is_class}, declared.bracket.Colon.{Colon, TheVariants.{Class, Unknown, Ordinary}}}

-- what `[:` begins in a bracket, if the first `]` is at p of the bytes after the `[:`: a class, an unknown class, or no class
abbrev pub ColonIs : Colon → List ℕ → ℕ → Type 0
ColonIs (Class ranges taken) rest p = (is_class rest p ≡ true) × (class_of (take (p - 1) rest) ≡ Some ranges.now) × (taken ≡ p + 2)
ColonIs Unknown rest p = (is_class rest p ≡ true) × (class_of (take (p - 1) rest) ≡ None)
ColonIs Ordinary rest p = is_class rest p ≡ false
