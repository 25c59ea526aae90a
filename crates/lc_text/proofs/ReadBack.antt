-- A shell reads a quoted text as the text.
use Rattle.std.proofs.Common.{◌≡◌, ℕ, ◌==◌, Bool, true, false, not, List, [], ◌∷◌, ◌++◌, if◌then◌else◌, Option, Some, refl, sym, ◌∙◌, ap}
use Rattle.std.proofs.{Common.{flat_map, option_map, subst}, lemmas.Bool.{eqb-true, and_parts, false_from_ne_true}}
use Rattle.std.specs.List.{list_all}
use Rattle.lc_glob.specs.Bytes.{backslash}
use Rattle.lc_text.specs.Quoting.{apostrophe, is_plain_word, is_shell_plain, quote_byte, in_quotes, quoted}
use Rattle.lc_text.specs.ShellWords.{outside, in_single, word_text}
use Rattle.lc_text.specs.ShellWords.{QuotedLaw}

-- inside the quotes
read_in_single : (text : List ℕ) → word_text in_single (flat_map quote_byte text ++ apostrophe ∷ []) ≡ Some text
read_in_single [] = refl
read_in_single (b ∷ bs) = at (read_in_single bs) (b == apostrophe) refl
  where
    rest : List ℕ
    rest = flat_map quote_byte bs ++ apostrophe ∷ []

    at : word_text in_single (flat_map quote_byte bs ++ apostrophe ∷ []) ≡ Some bs → (q : Bool) → (b == apostrophe) ≡ q
        → word_text in_single (flat_map quote_byte (b ∷ bs) ++ apostrophe ∷ []) ≡ Some (b ∷ bs)
    at more true e =
        subst (λ (c : ℕ). word_text in_single (flat_map quote_byte (c ∷ bs) ++ apostrophe ∷ []) ≡ Some (c ∷ bs))
        (sym (eqb-true b apostrophe e)) (ap (option_map (λ text. apostrophe ∷ text)) more)
    at more false e = rw (e, e) (ap (option_map (λ text. b ∷ text)) more)

-- a byte that means nothing to a shell is none of those that quote
plain_is_no : (b mark : ℕ) → is_shell_plain mark ≡ false → is_shell_plain b ≡ true → (b == mark) ≡ false
plain_is_no b mark e f =
    false_from_ne_true (b == mark) (λ h. cc (sym e ∙ ap is_shell_plain (sym (eqb-true b mark h)) ∙ f))

read_plain : (text : List ℕ) → list_all is_shell_plain text ≡ true → word_text outside text ≡ Some text
read_plain [] e = refl
read_plain (b ∷ bs) e =
    let both = and_parts (is_shell_plain b) (list_all is_shell_plain bs) e in
    rw (plain_is_no b apostrophe refl both.0, plain_is_no b backslash refl both.0, both.0)
    (ap (option_map (λ text. b ∷ text)) (read_plain bs both.1))

pub quoted_law : QuotedLaw
quoted_law [] = ((λ e. cc e), refl)
quoted_law (b ∷ bs) = at (is_plain_word (b ∷ bs)) refl
  where
    Reads : List ℕ → Type 0
    Reads word = (word ≡ [] → ⊥) × (word_text outside word ≡ Some (b ∷ bs))

    at : (q : Bool) → is_plain_word (b ∷ bs) ≡ q → Reads (if is_plain_word (b ∷ bs) then b ∷ bs else in_quotes (b ∷ bs))
    at true e =
        subst (λ (q : Bool). Reads (if q then b ∷ bs else in_quotes (b ∷ bs))) (sym e)
        ((λ h. cc h), read_plain (b ∷ bs) (and_parts (list_all is_shell_plain (b ∷ bs)) (not (b == 61)) e).0)
    at false e =
        subst (λ (q : Bool). Reads (if q then b ∷ bs else in_quotes (b ∷ bs))) (sym e) ((λ h. cc h), read_in_single (b ∷ bs))
