-- The languages that a list gives to names.
use Rattle.std.specs.Prelude.{◌≡◌, ◌==◌, ℕ, Bool, false, if◌then◌else◌, List, [], ◌∷◌, map, Option, Some, None, option_map}
use Rattle.std.specs.{BTreeMap.BTreeMap, Borrow.Bor, Cmp.Lexicographic.slice_cmp, List.{after_first, before_first}}
use Rattle.std.specs.{Option.option_or, Ordering.nat_cmp, Str.bytes_eq}
use Rattle.std.specs.BTreeMap as tree
use Rattle.lc_glob.specs.{Bytes.asterisk, Pieces.{is_byte, pieces_of}}
use Rattle.lc_rules.specs.Bytes.{equals_sign, line_feed, space}

abbrev pub dot : ℕ
dot = 46

-- ---- the lines of a list

-- which files a line of a list is about: those with a name, or those whose names have an end, which is written after an asterisk
pub data Pattern : Type 0 where
  whole : List ℕ → Pattern
  ending : List ℕ → Pattern

abbrev pub pattern_of : List ℕ → Pattern
pattern_of [] = whole []
pattern_of (b ∷ bs) = if b == asterisk then ending bs else whole (b ∷ bs)

-- a line: the text before the first space is the pattern, and the text after the first equals sign is the language
abbrev pub entry_of : List ℕ → Pattern × List ℕ
entry_of line = (pattern_of (before_first (is_byte space) line), after_first (is_byte equals_sign) line)

abbrev pub entries_of : List ℕ → List (Pattern × List ℕ)
entries_of list = map entry_of (pieces_of line_feed list)

abbrev pub same_pattern : Pattern → Pattern → Bool
same_pattern (whole a) (whole b) = bytes_eq a b
same_pattern (ending a) (ending b) = bytes_eq a b
same_pattern _ _ = false

-- the language in the last line with a pattern
abbrev pub listed : List (Pattern × List ℕ) → Pattern → Option (List ℕ)
listed [] p = None
listed (e ∷ es) p = option_or (listed es p) (if same_pattern e.0 p then Some e.1 else None)

-- ---- the language of a name

-- the ends of a name that begin with a dot, the longest first
abbrev pub ends_of : List ℕ → List (List ℕ)
ends_of [] = []
ends_of (b ∷ bs) = if b == dot then (b ∷ bs) ∷ ends_of bs else ends_of bs

-- the patterns of a name, the longest first: the whole name, and its ends
abbrev pub patterns_of : List ℕ → List Pattern
patterns_of name = whole name ∷ map ending (ends_of name)

-- what lines say of the first of these patterns of which they say something
abbrev pub first_listed : List (Pattern × List ℕ) → List Pattern → Option (List ℕ)
first_listed es [] = None
first_listed es (p ∷ ps) = option_or (listed es p) (first_listed es ps)

-- the language of a name: what the list says of the longest of its patterns that is listed
abbrev pub language_of : List ℕ → List ℕ → Option (List ℕ)
language_of list name = first_listed (entries_of list) (patterns_of name)

-- ---- how the lines are kept

-- the language that a map has for a text
abbrev pub language_in : BTreeMap (Bor (List ℕ)) (Bor (List ℕ)) → List ℕ → Option (List ℕ)
language_in m text = option_map (λ language. language.now) (tree.get_by (λ k. slice_cmp nat_cmp text k.now) m)

-- one map has the languages of whole names, and another those of ends
pub record HaveListed (es : List (Pattern × List ℕ)) (names ends : BTreeMap (Bor (List ℕ)) (Bor (List ℕ))) : Type 0 where
  pub of_names : (text : List ℕ) → language_in names text ≡ listed es (whole text)
  pub of_ends : (text : List ℕ) → language_in ends text ≡ listed es (ending text)

-- a map with the languages of one more line, which is about texts of this kind or of another kind
abbrev pub Adds : (kind : List ℕ → Pattern) → Pattern × List ℕ → (old new : BTreeMap (Bor (List ℕ)) (Bor (List ℕ))) → Type 0
Adds kind e old new = (text : List ℕ) → language_in new text ≡ option_or (listed (e ∷ []) (kind text)) (language_in old text)
