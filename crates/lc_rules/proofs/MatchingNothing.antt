-- What patterns match no path of an entry: dead ones, and those with a segment `.` or `..`.
use Rattle.std.proofs.Common.{◌≡◌, ℕ, ◌==◌, Bool, true, false, not, ◌&&◌, ◌||◌, List, [], ◌∷◌, MatchOption, refl, sym, ◌∙◌, ap, subst}
use Rattle.std.proofs.{Common.{inl, inr}, lemmas.Bool.{eqb-true, and_parts, and_cases, or_cases, false_from_ne_true, not-false, not-true}}
use Rattle.std.proofs.lemmas.Bool.{both_ways}
use Rattle.std.specs.List.{list_all, list_any}
use Rattle.lc_glob.specs.{Bytes.{dot, exclamation_mark}, IsMatch.{some_rest, fits, matches_path, fits_last_name, fits_last, segments_match}}
use Rattle.lc_glob.specs.{IsMatch.is_match, Path.{is_good_name, is_good_path, segments_of}, Patterns.{SegmentModel, plain, double_star}}
use Rattle.lc_glob.specs.{Patterns.PatternModel, Reading.pattern_of, Tokens.{TokenModel, literal, any_byte, star, class}}
use Rattle.lc_rules.specs.{Bytes.hash, CanMatch.{MatchesNothing, CanMatchLaw, has_dots, is_live, pattern_text}, IgnoreRules.RuleModel}
use Rattle.lc_rules.specs.IgnoreRules.{plain_rule, negated_rule, rule_from, text_of_line}
use Rattle.lc_rules.proofs.DotSegments.{is_dot, is_dot_part, is_dot_segment, IsDotted, dotted_pattern}

-- a token that is a dot takes a dot
dot_taken : (u : TokenModel) (us : List TokenModel) (b : ℕ) (bs : List ℕ) → is_dot u ≡ true → fits (u ∷ us) (b ∷ bs) ≡ true
    → (b ≡ dot) × (fits us bs ≡ true)
dot_taken (literal c) us b bs e f =
    let both = and_parts (c == b) (fits us bs) f in (sym (eqb-true c b both.0) ∙ eqb-true c dot e, both.1)
dot_taken any_byte us b bs e f = absurd (cc e)
dot_taken star us b bs e f = absurd (cc e)
dot_taken (class n rs) us b bs e f = absurd (cc e)

no_empty : (u : TokenModel) (us : List TokenModel) → is_dot u ≡ true → fits (u ∷ us) [] ≡ true → ⊥
no_empty (literal c) us e f = cc f
no_empty any_byte us e f = cc e
no_empty star us e f = cc e
no_empty (class n rs) us e f = cc e

-- such a segment fits no name of an entry
no_name : (us : List TokenModel) (name : List ℕ) → is_dot_part us ≡ true → is_good_name name ≡ true → fits us name ≡ true → ⊥
no_name [] name e good f = cc e
no_name (u ∷ []) [] e good f = no_empty u [] e f
no_name (u ∷ []) (b ∷ []) e good f =
    let is = (dot_taken u [] b [] e f).0 in cc (subst (λ (c : ℕ). is_good_name (c ∷ []) ≡ true) is good)
no_name (u ∷ []) (b ∷ c ∷ cs) e good f = cc (dot_taken u [] b (c ∷ cs) e f).1
no_name (u ∷ v ∷ []) [] e good f = no_empty u (v ∷ []) (and_parts (is_dot u) (is_dot v) e).0 f
no_name (u ∷ v ∷ []) (b ∷ []) e good f =
    let both = and_parts (is_dot u) (is_dot v) e in no_empty v [] both.1 (dot_taken u (v ∷ []) b [] both.0 f).1
no_name (u ∷ v ∷ []) (b ∷ c ∷ []) e good f =
    let both = and_parts (is_dot u) (is_dot v) e in
    let first = dot_taken u (v ∷ []) b (c ∷ []) both.0 f in
    let second = dot_taken v [] c [] both.1 first.1 in
    cc (subst (λ (y : ℕ). is_good_name (dot ∷ y ∷ []) ≡ true) second.0
    (subst (λ (x : ℕ). is_good_name (x ∷ c ∷ []) ≡ true) first.0 good))
no_name (u ∷ v ∷ []) (b ∷ c ∷ d ∷ ds) e good f =
    let both = and_parts (is_dot u) (is_dot v) e in
    cc (dot_taken v [] c (d ∷ ds) both.1 (dot_taken u (v ∷ []) b (c ∷ d ∷ ds) both.0 f).1).1
no_name (u ∷ v ∷ w ∷ us) name e good f = cc e

abbrev AllGood : List (List ℕ) → Type 0
AllGood names = list_all is_good_name names ≡ true

no_rest : (test : List (List ℕ) → Bool) → ((names : List (List ℕ)) → AllGood names → test names ≡ true → ⊥) → (names : List (List ℕ))
    → AllGood names → some_rest test names ≡ true → ⊥
no_rest test none [] good e = none [] good e
no_rest test none (n ∷ ns) good e = elim (or_cases (test (n ∷ ns)) (some_rest test ns) e) [
  | inl h ↦ none (n ∷ ns) good h
  | inr h ↦ no_rest test none ns (and_parts (is_good_name n) (list_all is_good_name ns) good).1 h
]

-- nor does a pattern with such a segment match names of entries
no_path : (segments : List SegmentModel) (names : List (List ℕ)) → list_any is_dot_segment segments ≡ true → AllGood names
    → matches_path segments names ≡ true → ⊥
no_path [] names e good f = cc e
no_path (plain us ∷ r) [] e good f = cc f
no_path (plain us ∷ r) (n ∷ ns) e good f =
    let both = and_parts (fits us n) (matches_path r ns) f in
    let names = and_parts (is_good_name n) (list_all is_good_name ns) good in
    elim (or_cases (is_dot_part us) (list_any is_dot_segment r) e) [
      | inl h ↦ no_name us n h names.0 both.0
      | inr h ↦ no_path r ns h names.1 both.1
    ]
no_path (double_star ∷ []) names e good f = cc e
no_path (double_star ∷ s ∷ r) names e good f = no_rest (matches_path (s ∷ r)) (λ ns ok h. no_path (s ∷ r) ns e ok h) names good f

no_last_name : (us : List TokenModel) (names : List (List ℕ)) → is_dot_part us ≡ true → AllGood names → fits_last_name us names ≡ true → ⊥
no_last_name us [] e good f = cc f
no_last_name us (n ∷ []) e good f = no_name us n e (and_parts (is_good_name n) true good).0 f
no_last_name us (n ∷ m ∷ ns) e good f =
    no_last_name us (m ∷ ns) e (and_parts (is_good_name n) (list_all is_good_name (m ∷ ns)) good).1 f

no_last : (segments : List SegmentModel) (names : List (List ℕ)) → list_any is_dot_segment segments ≡ true → AllGood names
    → fits_last segments names ≡ true → ⊥
no_last [] names e good f = cc e
no_last (plain us ∷ []) names e good f = elim (or_cases (is_dot_part us) false e) [
  | inl h ↦ no_last_name us names h good f
  | inr h ↦ cc h
]
no_last (plain us ∷ s ∷ r) names e good f = cc f
no_last (double_star ∷ r) names e good f = cc f

no_match : (anchored : Bool) (segments : List SegmentModel) (names : List (List ℕ)) → list_any is_dot_segment segments ≡ true
    → AllGood names → segments_match anchored segments names ≡ true → ⊥
no_match true segments names e good f = no_path segments names e good f
no_match false segments names e good f = no_last segments names e good f

matches_live : (p : PatternModel) (path : List ℕ) (is_dir : Bool) → is_match p path is_dir ≡ true
    → (p.is_dead ≡ false) × (segments_match p.is_anchored p.segments (segments_of path) ≡ true)
unfolding is_match
matches_live p path is_dir f =
    let all = and_parts (not p.is_dead && (not p.is_dir_only || is_dir)) (segments_match p.is_anchored p.segments (segments_of path)) f in
    (not-true p.is_dead (and_parts (not p.is_dead) (not p.is_dir_only || is_dir) all.0).0, all.1)

matches_none : (p : PatternModel) → IsDotted p → (path : List ℕ) (is_dir : Bool) → is_good_path path ≡ true → is_match p path is_dir ≡ false
matches_none p (inl e) path is_dir good =
    false_from_ne_true (is_match p path is_dir) (λ f. both_ways p.is_dead (matches_live p path is_dir f).0 e)
matches_none p (inr e) path is_dir good =
    false_from_ne_true (is_match p path is_dir)
    (λ f. no_match p.is_anchored p.segments (segments_of path) e good (matches_live p path is_dir f).1)

-- ---- the rule of a line

of_text : (number : ℕ) (text : List ℕ) → (is_live (rule_from 1 text) && not (has_dots (segments_of (pattern_text text)))) ≡ false
    → MatchOption (rule_from number text) (Unit {0}) MatchesNothing
of_text number [] e = tt
of_text number (b ∷ bs) e = at (b == hash) (b == exclamation_mark) refl refl
  where
    nothing : (bytes : List ℕ) (rule : RuleModel) → rule.pattern ≡ pattern_of bytes
        → (not (pattern_of bytes).is_dead && not (has_dots (segments_of bytes))) ≡ false → MatchesNothing rule
    nothing bytes rule is f path is_dir good =
        ap (λ (p : PatternModel). is_match p path is_dir) is
        ∙ matches_none (pattern_of bytes) (elim (and_cases (not (pattern_of bytes).is_dead) (not (has_dots (segments_of bytes))) f) [
          | inl h ↦ inl (not-false (pattern_of bytes).is_dead h)
          | inr h ↦ dotted_pattern bytes (not-false (has_dots (segments_of bytes)) h)
        ]) path is_dir good

    at : (h x : Bool) → (b == hash) ≡ h → (b == exclamation_mark) ≡ x
        → MatchOption (rule_from number (b ∷ bs)) (Unit {0}) MatchesNothing
    at true x f g = rw f tt
    at false true f g = rw (f, g) (nothing bs (negated_rule number bs) refl (rw (f, g) at e))
    at false false f g = rw (f, g) (nothing (b ∷ bs) (plain_rule number (b ∷ bs)) refl (rw (f, g) at e))

-- a line that is said to match nothing gives nothing
pub gives_nothing : CanMatchLaw
gives_nothing line e number = of_text number (text_of_line line) e
