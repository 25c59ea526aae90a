-- Patterns with a segment `.` or `..`: they match no path of an entry.
use Rattle.std.proofs.Common.{◌≡◌, ℕ, ◌==◌, Bool, true, false, ◌&&◌, ◌||◌, List, [], ◌∷◌, ◌++◌, Option, Some, None, if◌then◌else◌, map}
use Rattle.std.proofs.Common.{refl, sym, ◌∙◌, ap, subst, ◌⊎◌, inl, inr}
use Rattle.std.proofs.lemmas.Bool.{eqb-true, eqb-false, and_parts, and_from, or_cases, or_left, or_right, both_ways}
use Rattle.std.proofs.lemmas.List.{append-nil, append_assoc, map-append, Folds.list_any-append}
use Rattle.std.proofs.lemmas.List.Splits.{slice_split-cons_yes, slice_split-cons_no}
use Rattle.std.specs.List.{list_any, onto_first}
use Rattle.lc_glob.specs.{Bytes.{slash, dot, opening, backslash, asterisk, question_mark}, Path.segments_of, Patterns.{SegmentModel, plain}}
use Rattle.lc_glob.specs.{Patterns.{double_star, PatternModel, dead}, Reading.{one, byte_lexeme, put, parts, ends_empty, without_last}}
use Rattle.lc_glob.specs.Reading.{begins_empty, without_first, some_empty, is_double_star, segment_from, live, cut_at_front, pattern_from}
use Rattle.lc_glob.specs.{Reading.pattern_of, Tokens.{TokenModel, literal, any_byte, star, class}}
use Rattle.lc_glob.proofs.{Lexemes.lexeme_of_byte, Naming.some_segment, Parts.{join, join_separator, join_one, at_lexeme, join_start}}
use Rattle.lc_rules.specs.CanMatch.{is_dots, is_special, has_dots}

-- ---- tokens of such a segment

abbrev pub is_dot : TokenModel → Bool
is_dot (literal c) = c == dot
is_dot any_byte = false
is_dot star = false
is_dot (class negated ranges) = false

abbrev pub is_dot_part : List TokenModel → Bool
is_dot_part [] = false
is_dot_part (u ∷ []) = is_dot u
is_dot_part (u ∷ v ∷ []) = is_dot u && is_dot v
is_dot_part (u ∷ v ∷ w ∷ us) = false

abbrev pub is_dot_segment : SegmentModel → Bool
is_dot_segment (plain us) = is_dot_part us
is_dot_segment double_star = false

-- parts of which one is such a segment, or none that can be read
abbrev pub is_dotted : Option (List (List TokenModel)) → Bool
is_dotted None = true
is_dotted (Some ps) = list_any is_dot_part ps

-- what a byte means that is no separator
abbrev token_of : ℕ → TokenModel
token_of b = if b == asterisk then star else if b == question_mark then any_byte else literal b

lexeme_of_other : (b : ℕ) → (b == slash) ≡ false → byte_lexeme b ≡ one (token_of b)
lexeme_of_other b other = at (b == asterisk) (b == question_mark) refl refl
  where
    at : (s q : Bool) → (b == asterisk) ≡ s → (b == question_mark) ≡ q → byte_lexeme b ≡ one (token_of b)
    at true q e f = rw e refl
    at false true e f = rw (e, f) refl
    at false false e f = rw (e, f, other) refl

is_dot-token : (b : ℕ) → (b == dot) ≡ true → is_dot (token_of b) ≡ true
is_dot-token b e = subst (λ (c : ℕ). is_dot (token_of c) ≡ true) (sym (eqb-true b dot e)) refl

is_dot_part-dots : (s : List ℕ) → is_dots s ≡ true → is_dot_part (map token_of s) ≡ true
is_dot_part-dots [] e = absurd (cc e)
is_dot_part-dots (b ∷ []) e = is_dot-token b e
is_dot_part-dots (b ∷ c ∷ []) e =
    let both = and_parts (b == dot) (c == dot) e in
    and_from (is_dot (token_of b)) (is_dot (token_of c)) (is_dot-token b both.0) (is_dot-token c both.1)
is_dot_part-dots (b ∷ c ∷ d ∷ ds) e = absurd (cc e)

-- ---- reading a pattern, byte by byte

-- bytes that were read, before the first segment of what is left
abbrev before : List ℕ → List (List ℕ) → List (List ℕ)
before read [] = read ∷ []
before read (s ∷ ss) = (read ++ s) ∷ ss

before_none : (segments : List (List ℕ)) → (segments ≡ [] → ⊥) → before [] segments ≡ segments
before_none [] some = absurd (some refl)
before_none (s ∷ ss) some = refl

before_more : (read : List ℕ) (b : ℕ) (segments : List (List ℕ)) → (segments ≡ [] → ⊥)
    → before read (onto_first b segments) ≡ before (read ++ b ∷ []) segments
before_more read b [] some = absurd (some refl)
before_more read b (s ∷ ss) some = ap (λ (l : List ℕ). l ∷ ss) (sym (append_assoc read (b ∷ []) s))

has_dots-first : (s : List ℕ) (ss : List (List ℕ)) → has_dots (s ∷ ss) ≡ true
    → (is_special s ≡ false) × ((is_dots s || has_dots ss) ≡ true)
has_dots-first s ss e = at (is_special s) refl
  where
    at : (q : Bool) → is_special s ≡ q → (is_special s ≡ false) × ((is_dots s || has_dots ss) ≡ true)
    at true f = absurd (cc (sym e ∙ ap (λ (b : Bool). if b then false else is_dots s || has_dots ss) f))
    at false f = (f, sym (ap (λ (b : Bool). if b then false else is_dots s || has_dots ss) f) ∙ e)

-- a bracket or a backslash makes its segment special
special_here : (read s : List ℕ) (b : ℕ) → ((b == opening) ≡ true) ⊎ ((b == backslash) ≡ true) → is_special (read ++ b ∷ s) ≡ true
special_here read s b (inl e) =
    or_left (list_any (λ c. c == opening) (read ++ b ∷ s)) (list_any (λ c. c == backslash) (read ++ b ∷ s))
    (list_any-append (λ c. c == opening) read (b ∷ s)
    ∙ or_right (list_any (λ c. c == opening) read) (list_any (λ c. c == opening) (b ∷ s))
    (or_left (b == opening) (list_any (λ c. c == opening) s) e))
special_here read s b (inr e) =
    or_right (list_any (λ c. c == opening) (read ++ b ∷ s)) (list_any (λ c. c == backslash) (read ++ b ∷ s))
    (list_any-append (λ c. c == backslash) read (b ∷ s)
    ∙ or_right (list_any (λ c. c == backslash) read) (list_any (λ c. c == backslash) (b ∷ s))
    (or_left (b == backslash) (list_any (λ c. c == backslash) s) e))

no_dots_there : (read : List ℕ) (b : ℕ) (segments : List (List ℕ)) → ((b == opening) ≡ true) ⊎ ((b == backslash) ≡ true)
    → has_dots (before read (onto_first b segments)) ≡ true → (segments ≡ [] → ⊥) → ⊥
no_dots_there read b [] special e some = some refl
no_dots_there read b (s ∷ ss) special e some =
    both_ways (is_special (read ++ b ∷ s)) (has_dots-first (read ++ b ∷ s) ss e).0 (special_here read s b special)

-- a part before others
dotted_join : (part : List TokenModel) (o : Option (List (List TokenModel)))
    → (is_dot_part part ≡ true) ⊎ (is_dotted (join [] [] o) ≡ true) → is_dotted (join (part ∷ []) [] o) ≡ true
dotted_join part None e = refl
dotted_join part (Some []) e = refl
dotted_join part (Some (p ∷ ps)) (inl e) = or_left (is_dot_part part) (list_any is_dot_part (p ∷ ps)) e
dotted_join part (Some (p ∷ ps)) (inr e) = or_right (is_dot_part part) (list_any is_dot_part (p ∷ ps)) e

either : (a b : Bool) {A B : Type 0} → (a || b) ≡ true → (a ≡ true → A) → (b ≡ true → B) → A ⊎ B
either a b e on_a on_b = elim (or_cases a b e) [
  | inl h ↦ inl (on_a h)
  | inr h ↦ inr (on_b h)
]

-- a segment `.` or `..` is a part, or the pattern is dead
dotted_parts : (bytes read : List ℕ) → has_dots (before read (segments_of bytes)) ≡ true
    → is_dotted (join [] (map token_of read) (parts 0 bytes)) ≡ true
dotted_parts [] read e =
    let dots = has_dots-first (read ++ []) [] e in
    let here : is_dots read ≡ true = elim (or_cases (is_dots (read ++ [])) false dots.1) [
      | inl h ↦ ap is_dots (sym (append-nil read)) ∙ h
      | inr h ↦ absurd (cc h)
    ] in
    or_left (is_dot_part (map token_of read ++ [])) false
    (ap is_dot_part (append-nil (map token_of read)) ∙ is_dot_part-dots read here)
dotted_parts (b ∷ bs) read e = at (dotted_parts bs) (b == slash) refl
  where
    HasBelow : Type 0
    HasBelow =
        (more : List ℕ) → has_dots (before more (segments_of bs)) ≡ true → is_dotted (join [] (map token_of more) (parts 0 bs)) ≡ true

    some : segments_of bs ≡ [] → ⊥
    some = some_segment bs

    at_other : HasBelow → (b == slash) ≡ false → (o c : Bool) → (b == opening) ≡ o → (b == backslash) ≡ c
        → has_dots (before read (onto_first b (segments_of bs))) ≡ true
        → is_dotted (join [] (map token_of read) (parts 0 (b ∷ bs))) ≡ true
    at_other below other true c f g h = absurd (no_dots_there read b (segments_of bs) (inl f) h some)
    at_other below other false true f g h = absurd (no_dots_there read b (segments_of bs) (inr g) h some)
    at_other below other false false f g h =
        let more = below (read ++ b ∷ []) (ap has_dots (sym (before_more read b (segments_of bs) some)) ∙ h) in
        let read_on : parts 0 (b ∷ bs) ≡ put (one (token_of b)) (parts 0 bs) =
        at_lexeme b bs (byte_lexeme b) 0 (lexeme_of_byte b bs (eqb-false b backslash g) (eqb-false b opening f))
        ∙ ap (λ t. put t (parts 0 bs)) (lexeme_of_other b other) in
        ap (λ o. is_dotted (join [] (map token_of read) o)) read_on
        ∙ ap is_dotted (join_one [] (map token_of read) (token_of b) (parts 0 bs)
        ∙ ap (λ (l : List TokenModel). join [] l (parts 0 bs)) (sym (map-append token_of read (b ∷ []))))
        ∙ more

    at : HasBelow → (q : Bool) → (b == slash) ≡ q → is_dotted (join [] (map token_of read) (parts 0 (b ∷ bs))) ≡ true
    at below true f =
        let is : b ≡ slash = eqb-true b slash f in
        let here : has_dots ((read ++ []) ∷ segments_of bs) ≡ true =
        ap (λ ss. has_dots (before read ss)) (sym (slice_split-cons_yes (λ c. c == slash) b bs f)) ∙ e in
        let found = either (is_dots (read ++ [])) (has_dots (segments_of bs)) (has_dots-first (read ++ []) (segments_of bs) here).1
        (λ h. is_dot_part-dots read (ap is_dots (sym (append-nil read)) ∙ h))
        (λ h. below [] (ap has_dots (before_none (segments_of bs) some) ∙ h)) in
        ap (λ (c : ℕ). is_dotted (join [] (map token_of read) (parts 0 (c ∷ bs)))) is
        ∙ ap is_dotted (join_separator [] (map token_of read) (parts 0 bs))
        ∙ dotted_join (map token_of read) (parts 0 bs) found
    at below false f =
        at_other below f (b == opening) (b == backslash) refl refl
        (ap (λ ss. has_dots (before read ss)) (sym (slice_split-cons_no (λ c. c == slash) b bs f)) ∙ e)

pub dotted_bytes : (bytes : List ℕ) → has_dots (segments_of bytes) ≡ true → is_dotted (parts 0 bytes) ≡ true
dotted_bytes bytes e =
    ap is_dotted (join_start bytes)
    ∙ dotted_parts bytes [] (ap has_dots (before_none (segments_of bytes) (some_segment bytes)) ∙ e)

-- ---- the pattern of the parts

-- it is dead, or such a segment is one of its own
abbrev pub IsDotted : PatternModel → Type 0
IsDotted p = (p.is_dead ≡ true) ⊎ (list_any is_dot_segment p.segments ≡ true)

no_stars : (us : List TokenModel) → is_dot_part us ≡ true → is_double_star us ≡ false
no_stars [] e = refl
no_stars (u ∷ []) e = refl
no_stars (literal c ∷ v ∷ []) e = refl
no_stars (any_byte ∷ v ∷ []) e = refl
no_stars (star ∷ v ∷ []) e = absurd (cc e)
no_stars (class n rs ∷ v ∷ []) e = refl
no_stars (u ∷ v ∷ w ∷ us) e = refl

dot_segment : (anchored : Bool) (us : List TokenModel) → is_dot_part us ≡ true → is_dot_segment (segment_from anchored us) ≡ true
dot_segment true us e =
    ap (λ (b : Bool). is_dot_segment (if true && b then double_star else plain us)) (no_stars us e) ∙ e
dot_segment false us e = e

dot_segments : (anchored : Bool) (ps : List (List TokenModel)) → list_any is_dot_part ps ≡ true
    → list_any is_dot_segment (map (segment_from anchored) ps) ≡ true
dot_segments anchored [] e = absurd (cc e)
dot_segments anchored (p ∷ ps) e = elim (or_cases (is_dot_part p) (list_any is_dot_part ps) e) [
  | inl h ↦ or_left (is_dot_segment (segment_from anchored p)) (list_any is_dot_segment (map (segment_from anchored) ps))
      (dot_segment anchored p h)
  | inr h ↦ or_right (is_dot_segment (segment_from anchored p)) (list_any is_dot_segment (map (segment_from anchored) ps))
      (dot_segments anchored ps h)
]

dotted_live : (dir_only anchored : Bool) (ps : List (List TokenModel)) → list_any is_dot_part ps ≡ true
    → IsDotted (live dir_only anchored ps)
dotted_live dir_only anchored ps e = at (some_empty ps) refl
  where
    alive : PatternModel
    alive = record { is_dead = false; is_dir_only = dir_only; is_anchored = anchored; segments = map (segment_from anchored) ps }

    at : (b : Bool) → some_empty ps ≡ b → IsDotted (live dir_only anchored ps)
    at true f = subst (λ (b : Bool). IsDotted (if b then dead else alive)) (sym f) (inl refl)
    at false f = subst (λ (b : Bool). IsDotted (if b then dead else alive)) (sym f) (inr (dot_segments anchored ps e))

after_first_empty : (ps : List (List TokenModel)) → begins_empty ps ≡ true → list_any is_dot_part ps ≡ true
    → list_any is_dot_part (without_first ps) ≡ true
after_first_empty [] b e = absurd (cc b)
after_first_empty (p ∷ []) b e = absurd (cc b)
after_first_empty ([] ∷ q ∷ ps) b e = e
after_first_empty ((u ∷ us) ∷ q ∷ ps) b e = absurd (cc b)

before_last_empty : (ps : List (List TokenModel)) → ends_empty ps ≡ true → list_any is_dot_part ps ≡ true
    → list_any is_dot_part (without_last ps) ≡ true
before_last_empty [] b e = absurd (cc b)
before_last_empty (p ∷ []) b e = absurd (cc b)
before_last_empty (p ∷ [] ∷ []) b e = e
before_last_empty (p ∷ (u ∷ us) ∷ []) b e = absurd (cc b)
before_last_empty (p ∷ q ∷ r ∷ ps) b e = elim (or_cases (is_dot_part p) (list_any is_dot_part (q ∷ r ∷ ps)) e) [
  | inl h ↦ or_left (is_dot_part p) (list_any is_dot_part (without_last (q ∷ r ∷ ps))) h
  | inr h ↦ or_right (is_dot_part p) (list_any is_dot_part (without_last (q ∷ r ∷ ps))) (before_last_empty (q ∷ r ∷ ps) b h)
]

dotted_at_front : (dir_only : Bool) (ps : List (List TokenModel)) → list_any is_dot_part ps ≡ true → IsDotted (cut_at_front dir_only ps)
dotted_at_front dir_only ps e =
    dotted_live dir_only _ (if begins_empty ps then without_first ps else ps) (at (begins_empty ps) refl)
  where
    at : (b : Bool) → begins_empty ps ≡ b → list_any is_dot_part (if begins_empty ps then without_first ps else ps) ≡ true
    at true f = ap (λ (b : Bool). list_any is_dot_part (if b then without_first ps else ps)) f ∙ after_first_empty ps f e
    at false f = ap (λ (b : Bool). list_any is_dot_part (if b then without_first ps else ps)) f ∙ e

dotted_from : (o : Option (List (List TokenModel))) → is_dotted o ≡ true → IsDotted (pattern_from o)
dotted_from None e = inl refl
dotted_from (Some ps) e =
    dotted_at_front (ends_empty ps) (if ends_empty ps then without_last ps else ps) (at (ends_empty ps) refl)
  where
    at : (b : Bool) → ends_empty ps ≡ b → list_any is_dot_part (if ends_empty ps then without_last ps else ps) ≡ true
    at true f = ap (λ (b : Bool). list_any is_dot_part (if b then without_last ps else ps)) f ∙ before_last_empty ps f e
    at false f = ap (λ (b : Bool). list_any is_dot_part (if b then without_last ps else ps)) f ∙ e

-- a pattern with such a segment before the first bracket or backslash is dead, or has it
pub dotted_pattern : (bytes : List ℕ) → has_dots (segments_of bytes) ≡ true → IsDotted (pattern_of bytes)
dotted_pattern bytes e = dotted_from (parts 0 bytes) (dotted_bytes bytes e)
