-- What is found in a list of all words.
use Rattle.std.proofs.Common.{arith, ◌≡◌, ◌≢◌, ℕ, Bool, true, false, List, [], ◌∷◌, Option, Some, None, refl, sym, cond, ◌∙◌, ◌⊎◌, inl}
use Rattle.std.proofs.{Common.inr, lemmas.{Grind.common_steps, Slice.Eq.bytes_eq-Decides}}
use Rattle.std.specs.{Prelude.{MatchOption, find, bytes_eq}, Bool.Decides}
use Rattle.lc_census.specs.{EolWords.eol_word, declared.line_count.Eol.{Eol, TheVariants.{NoEnd, Lf, CrLf, Cr, Mixed, Nul}}}
use Rattle.lc_level.specs.{FaultWords.fault_word, declared.fault_word.FaultWord.FaultWord}
use Rattle.lc_level.specs.declared.fault_word.FaultWord.TheVariants.{Read, Name, Twice, Many, Long, Endless, Absent}
use Rattle.lc_rules.specs.{TextWords.text_word, declared.states.TextState.{TextState, TheVariants.{Set, Unset, Auto, Other, Unspecified}}}
use Rattle.lc_reading.specs.{MemberNames.member_name, Members.is_word, Objects.is_value, declared.member_name.MemberName.MemberName}
use Rattle.lc_reading.specs.declared.member_name.MemberName.TheVariants.{Rows, Others, Total, Text, Binary, Directories, Entries, Files}
use Rattle.lc_reading.specs.declared.member_name.MemberName.TheVariants.{Left, Faults, Path, PathBytes, Ext, ExtBytes, Lines, Blank}
use Rattle.lc_reading.specs.declared.member_name.MemberName.TheVariants.{Bytes, Kind, Reason, File, FileBytes, Line, Attribute}
use Rattle.lc_reading.specs.declared.member_name.MemberName.TheVariants.{AttributeBytes, Word}
use Rattle.lc_reading.specs.declared.member_name.MemberName.TheVariants as name

abbrev pub IsIn : {A : Type 0} → A → List A → Type 0
IsIn a [] = ⊥
IsIn a (x ∷ xs) = (x ≡ a) ⊎ IsIn a xs

module _ {A : Type 0} (p : A → Bool) where
  first_is : (x : A) (xs : List A) (a : A) (b : Bool) → p x ≡ b → (Some a ≡ find p xs → p a ≡ true)
      → Some a ≡ cond b (Some x) (find p xs) → p a ≡ true
  first_is x xs a b is more e = grind (arith, common_steps)

  in_first : (x : A) (xs : List A) (a : A) (b : Bool) → (Some a ≡ find p xs → IsIn a xs) → Some a ≡ cond b (Some x) (find p xs)
      → IsIn a (x ∷ xs)
  in_first x xs a b more e = grind (arith, common_steps)

  some_found : (xs : List A) (a : A) → Some a ≡ find p xs → p a ≡ true
  some_found [] a e = absurd (cc)
  some_found (x ∷ xs) a e = first_is x xs a (p x) refl (some_found xs a) e

  none_first : (x : A) (xs : List A) (a : A) (b : Bool) → p x ≡ b → (None ≡ find p xs → IsIn a xs → p a ≡ false)
      → None ≡ cond b (Some x) (find p xs)
      → IsIn a (x ∷ xs) → p a ≡ false
  none_first x xs a b is more e i = grind (arith, common_steps)

  none_found : (xs : List A) (a : A) → None ≡ find p xs → IsIn a xs → p a ≡ false
  none_found [] a e i = absurd i
  none_found (x ∷ xs) a e i = none_first x xs a (p x) refl (none_found xs a) e i

  found : (R : A → Type 0) (decides : (a : A) → Decides (p a) (R a)) (all : List A) (each : (a : A) → IsIn a all) (r : Option A)
      → r ≡ find p all
      → MatchOption r ((a : A) → R a → ⊥) R
  found R decides all each None e = λ a is. let t = (decides a).1 is in let f = none_found all a e (each a) in absurd (cc)
  found R decides all each (Some a) e = (decides a).0 (some_found all a e)

  some_in : (xs : List A) (a : A) → Some a ≡ find p xs → IsIn a xs
  some_in [] a e = absurd (cc)
  some_in (x ∷ xs) a e = in_first x xs a (p x) (some_in xs a) e

abbrev all_eols : List Eol
all_eols = NoEnd ∷ Lf ∷ CrLf ∷ Cr ∷ Mixed ∷ Nul ∷ []

each_eol : (a : Eol) → IsIn a all_eols
each_eol a = grind (arith, common_steps)

pub eol_found : (w : List ℕ) (r : Option Eol) → r ≡ find (λ a. bytes_eq (eol_word a) w) all_eols
    → MatchOption r ((a : Eol) → eol_word a ≢ w) (λ a. eol_word a ≡ w)
eol_found w r e = found (λ a. bytes_eq (eol_word a) w) (λ a. eol_word a ≡ w) (λ a. bytes_eq-Decides (eol_word a) w) all_eols each_eol r e

abbrev all_faults : List FaultWord
all_faults = Read ∷ Name ∷ Twice ∷ Many ∷ Long ∷ Endless ∷ Absent ∷ []

each_fault : (a : FaultWord) → IsIn a all_faults
each_fault a = grind (arith, common_steps)

pub fault_found : (w : List ℕ) (r : Option FaultWord) → r ≡ find (λ a. bytes_eq (fault_word a) w) all_faults
    → MatchOption r ((a : FaultWord) → fault_word a ≢ w) (λ a. fault_word a ≡ w)
fault_found w r e = found (λ a. bytes_eq (fault_word a) w) (λ a. fault_word a ≡ w) (λ a. bytes_eq-Decides (fault_word a) w) all_faults
    each_fault r e

abbrev all_states : List TextState
all_states = Set ∷ Unset ∷ Auto ∷ Other ∷ Unspecified ∷ []

each_state : (a : TextState) → IsIn a all_states
each_state a = grind (arith, common_steps)

word_decides : (w : List ℕ) (own : Option (List ℕ)) → Decides (is_word w own) (own ≡ Some w)
word_decides w own = grind (arith, common_steps, bytes_eq-Decides)

pub state_found : (w : List ℕ) (r : Option TextState) → r ≡ find (λ a. is_word w (text_word a)) all_states
    → MatchOption r ((a : TextState) → text_word a ≢ Some w) (λ a. text_word a ≡ Some w)
state_found w r e = found (λ a. is_word w (text_word a)) (λ a. text_word a ≡ Some w) (λ a. word_decides w (text_word a)) all_states
    each_state r e

abbrev pub value_names : List MemberName
value_names = Others ∷ Total ∷ Text ∷ Binary ∷ Directories ∷ Entries ∷ []

pub value_in : (n : MemberName) → is_value n ≡ true → IsIn n value_names
value_in Others e = inl refl
value_in Total e = inr (inl refl)
value_in Text e = inr (inr (inl refl))
value_in Binary e = inr (inr (inr (inl refl)))
value_in Directories e = inr (inr (inr (inr (inl refl))))
value_in Entries e = inr (inr (inr (inr (inr (inl refl)))))
value_in Rows e = absurd (cc)
value_in Files e = absurd (cc)
value_in Left e = absurd (cc)
value_in Faults e = absurd (cc)
value_in Path e = absurd (cc)
value_in PathBytes e = absurd (cc)
value_in Ext e = absurd (cc)
value_in ExtBytes e = absurd (cc)
value_in name.Eol e = absurd (cc)
value_in Lines e = absurd (cc)
value_in Blank e = absurd (cc)
value_in Bytes e = absurd (cc)
value_in Kind e = absurd (cc)
value_in Reason e = absurd (cc)
value_in File e = absurd (cc)
value_in FileBytes e = absurd (cc)
value_in Line e = absurd (cc)
value_in Attribute e = absurd (cc)
value_in AttributeBytes e = absurd (cc)
value_in Word e = absurd (cc)

in_value : (n : MemberName) → IsIn n value_names → is_value n ≡ true
in_value n is = grind (arith, common_steps)

pub value_found : (k : List ℕ) (r : Option MemberName) → r ≡ find (λ n. bytes_eq (member_name n) k) value_names
    → MatchOption r ((n : MemberName) → is_value n ≡ true → k ≢ member_name n) (λ n. (is_value n ≡ true) × (k ≡ member_name n))
value_found k None e = grind (arith, common_steps, bytes_eq-Decides, none_found, value_in, in_value, some_in, some_found)
value_found k (Some n) e = (
  in_value n (some_in (λ n. bytes_eq (member_name n) k) value_names n e),
  sym ((bytes_eq-Decides (member_name n) k).0 (some_found (λ n. bytes_eq (member_name n) k) value_names n e)),
)
