-- How a shell reads a word: POSIX.1-2017, Shell Command Language, 2.2.1 (Escape Character) and 2.2.2 (Single-Quotes).
use Rattle.std.specs.Prelude.{◌≡◌, ℕ, ◌==◌, if◌then◌else◌, List, [], ◌∷◌, Option, Some, None, option_map}
use Rattle.lc_glob.specs.Bytes.{backslash}
use Rattle.lc_rules.specs.Bytes.{line_feed}
use Rattle.lc_text.specs.Quoting.{apostrophe, is_shell_plain, quoted}

-- where in a word a byte is: outside quotes, in single quotes, or after a backslash outside quotes
pub data Place : Type 0 where
  outside : Place
  in_single : Place
  escaped : Place

-- the text of the rest of a word that begins at such a place; None if the word goes on in the next line, or has a byte that may mean more
-- to a shell
abbrev pub word_text : Place → List ℕ → Option (List ℕ)
word_text outside [] = Some []
word_text in_single [] = None
word_text escaped [] = None
word_text outside (b ∷ bs) =
    if b == apostrophe then word_text in_single bs
    else if b == backslash then word_text escaped bs
    else if is_shell_plain b then option_map (λ text. b ∷ text) (word_text outside bs) else None
word_text in_single (b ∷ bs) =
    if b == apostrophe then word_text outside bs else option_map (λ text. b ∷ text) (word_text in_single bs)
word_text escaped (b ∷ bs) = if b == line_feed then None else option_map (λ text. b ∷ text) (word_text outside bs)

-- a quoted text is not empty, and a shell reads it as the text
abbrev pub QuotedLaw : Type 0
QuotedLaw = (text : List ℕ) → (quoted text ≡ [] → ⊥) × (word_text outside (quoted text) ≡ Some text)
