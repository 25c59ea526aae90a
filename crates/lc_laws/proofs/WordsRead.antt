-- Words that are read: each is that of one value.
use Rattle.std.proofs.Common.{arith, ◌≡◌, ◌∙◌, ℕ, Bool, false, List, [], ◌∷◌, Option, Some, None, codes, refl, sym, ap, find, bytes_eq}
use Rattle.std.proofs.{Common.is_some, lemmas.Grind.common_steps}
use Rattle.lc_census.specs.{EolWords.eol_word, declared.line_count.Eol.{Eol, TheVariants.{NoEnd, Lf, CrLf, Cr, Mixed, Nul}}}
use Rattle.lc_level.specs.{FaultWords.fault_word, Level.Reason, ReasonWords.{attribute_of, reason_word, rule_of}}
use Rattle.lc_level.specs.{declared.fault_word.FaultWord.{FaultWord, TheVariants.{Read, Name, Twice, Many, Long, Endless, Absent}}}
use Rattle.lc_reading.specs.Lines.{word_json}
use Rattle.lc_rules.specs.{TextWords.text_word, declared.states.TextState.{TextState, TheVariants.{Set, Unset, Auto, Other, Unspecified}}}

-- a value that is found again by its word is the only one of it
only_one : {A W : Type 0} (word : A → W) (back : W → Option A) → ((a : A) → back (word a) ≡ Some a) → (a b : A) → word a ≡ word b → a ≡ b
only_one word back each a b e = let same : Some a ≡ Some b = sym (each a) ∙ ap back e ∙ each b in cc

-- ---- line ends

eol_back : List ℕ → Option Eol
eol_back w = find (λ e. bytes_eq (eol_word e) w) (NoEnd ∷ Lf ∷ CrLf ∷ Cr ∷ Mixed ∷ Nul ∷ [])

each_eol : (e : Eol) → eol_back (eol_word e) ≡ Some e
unfolding eol_back
each_eol e = grind (arith, common_steps, eol_back)

pub same_eol : (a b : Eol) → eol_word a ≡ eol_word b → a ≡ b
same_eol = only_one eol_word eol_back each_eol

-- ---- faults

fault_back : List ℕ → Option FaultWord
fault_back w = find (λ f. bytes_eq (fault_word f) w) (Read ∷ Name ∷ Twice ∷ Many ∷ Long ∷ Endless ∷ Absent ∷ [])

each_fault : (f : FaultWord) → fault_back (fault_word f) ≡ Some f
unfolding fault_back
each_fault f = grind (arith, common_steps, fault_back)

pub same_fault : (a b : FaultWord) → fault_word a ≡ fault_word b → a ≡ b
same_fault = only_one fault_word fault_back each_fault

-- ---- states of the attribute `text`

state_back : Option (List ℕ) → Option TextState
state_back None = Some Unspecified
state_back (Some w) = find (λ t. is_word t) (Set ∷ Unset ∷ Auto ∷ Other ∷ [])
  where
    is_own : Option (List ℕ) → Bool
    is_own None = false
    is_own (Some own) = bytes_eq own w

    is_word : TextState → Bool
    is_word t = is_own (text_word t)

each_state : (t : TextState) → state_back (text_word t) ≡ Some t
unfolding state_back
each_state Set = refl
each_state t = refl

same_word : (a b : Option (List ℕ)) → word_json a ≡ word_json b → a ≡ b
same_word a b e = grind (arith, common_steps)

pub same_state : (a b : TextState) → word_json (text_word a) ≡ word_json (text_word b) → a ≡ b
same_state a b e = only_one text_word state_back each_state a b (same_word (text_word a) (text_word b) e)

-- ---- reasons

-- whether a rule, or an attribute, is the reason shows in its word
rule_shown : (r : Reason) → is_some (rule_of r) ≡ bytes_eq (reason_word r) (codes "rule")
rule_shown r = grind (arith, common_steps)

attribute_shown : (r : Reason) → is_some (attribute_of r) ≡ bytes_eq (reason_word r) (codes "attribute")
attribute_shown r = grind (arith, common_steps)

pub both_by_rule : (a b : Reason) → reason_word a ≡ reason_word b → is_some (rule_of a) ≡ is_some (rule_of b)
both_by_rule a b e = rule_shown a ∙ ap (λ w. bytes_eq w (codes "rule")) e ∙ sym (rule_shown b)

pub both_by_attribute : (a b : Reason) → reason_word a ≡ reason_word b → is_some (attribute_of a) ≡ is_some (attribute_of b)
both_by_attribute a b e = attribute_shown a ∙ ap (λ w. bytes_eq w (codes "attribute")) e ∙ sym (attribute_shown b)
