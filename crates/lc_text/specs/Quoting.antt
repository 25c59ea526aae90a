-- How a text is written as one argument of a shell: POSIX.1-2017, Shell Command Language, 2.2 (Quoting).
use Rattle.std.specs.{Prelude.{ℕ, ◌==◌, ◌||◌, ◌&&◌, Bool, false, not, if◌then◌else◌, List, [], ◌∷◌, ◌++◌, codes, flat_map}, Int.is_in_range}
use Rattle.std.specs.List.{list_all}
use Rattle.std.specs.List.{list_any}

-- `'`, which quotes all that follows it up to the next one
abbrev pub apostrophe : ℕ
apostrophe = 39

-- letters, digits and the marks that mean nothing to a shell
abbrev pub is_shell_plain : ℕ → Bool
is_shell_plain b =
    is_in_range 97 122 b || (is_in_range 65 90 b || (is_in_range 48 57 b || list_any (λ mark. mark == b) (codes "_./:=@%+,-")))

-- inside single quotes each byte is itself, but for such a quote: the quotes end, it follows a backslash, and they begin again
abbrev pub quote_byte : ℕ → List ℕ
quote_byte b = if b == apostrophe then codes "'\\''" else b ∷ []

abbrev pub in_quotes : List ℕ → List ℕ
in_quotes word = apostrophe ∷ flat_map quote_byte word ++ apostrophe ∷ []

-- whether a shell takes a word as it is. In zsh a word that begins with `=` is the path of a command
abbrev pub is_plain_word : List ℕ → Bool
is_plain_word [] = false
is_plain_word (b ∷ bs) = list_all is_shell_plain (b ∷ bs) && not (b == 61)

-- a word that a shell takes as it is, or the word in single quotes
abbrev pub quoted : List ℕ → List ℕ
quoted word = if is_plain_word word then word else in_quotes word
