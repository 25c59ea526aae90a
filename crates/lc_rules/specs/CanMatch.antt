-- Which lines of an ignore file give rules that match nothing.
use Rattle.std.specs.Prelude.{◌≡◌, ℕ, Bool, true, false, not, ◌&&◌, ◌||◌, ◌==◌, if◌then◌else◌, List, [], ◌∷◌, Option, Some, None}
use Rattle.std.specs.{Prelude.MatchOption, List.list_any}
use Rattle.lc_glob.specs.{Bytes.{backslash, dot, exclamation_mark, opening}, IsMatch.is_match, Path.{is_good_path, segments_of}}
use Rattle.lc_rules.specs.IgnoreRules.{RuleModel, rule_of_line, text_of_line}

-- a rule that matches no path of an entry, seen from the directory of the rule's file
abbrev pub MatchesNothing : RuleModel → Type 0
MatchesNothing rule = (path : List ℕ) (is_dir : Bool) → is_good_path path ≡ true → is_match rule.pattern path is_dir ≡ false

-- a line that gives no rule, or a rule that matches no path of an entry
abbrev pub GivesNothing : List ℕ → Type 0
GivesNothing line = (number : ℕ) → MatchOption (rule_of_line (number, line)) (Unit {0}) MatchesNothing

-- whether a line gives a rule whose pattern was read
abbrev pub is_live : Option RuleModel → Bool
is_live None = false
is_live (Some rule) = not rule.pattern.is_dead

-- the text of a rule's pattern: without the exclamation mark that negates it
abbrev pub pattern_text : List ℕ → List ℕ
pattern_text [] = []
pattern_text (b ∷ bs) = if b == exclamation_mark then bs else b ∷ bs

-- `.` and `..`, which are the names of no entry
abbrev pub is_dots : List ℕ → Bool
is_dots [] = false
is_dots (b ∷ []) = b == dot
is_dots (b ∷ c ∷ []) = (b == dot) && (c == dot)
is_dots (b ∷ c ∷ d ∷ ds) = false

-- whether a segment has a bracket or a backslash, in which a slash cuts no segments
abbrev pub is_special : List ℕ → Bool
is_special segment = list_any (λ b. b == opening) segment || list_any (λ b. b == backslash) segment

-- whether a segment is `.` or `..`, of those before the first segment that has a bracket or a backslash
abbrev pub has_dots : List (List ℕ) → Bool
has_dots [] = false
has_dots (s ∷ ss) = if is_special s then false else is_dots s || has_dots ss

-- whether a line gives a rule that can match a path, as far as is known
abbrev pub can_match : List ℕ → Bool
can_match line = is_live (rule_of_line (1, line)) && not (has_dots (segments_of (pattern_text (text_of_line line))))

-- a line for which `can_match` is false gives no rule, or a rule that matches no path of an entry
abbrev pub CanMatchLaw : Type 0
CanMatchLaw = (line : List ℕ) → can_match line ≡ false → GivesNothing line
