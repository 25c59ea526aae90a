-- The assignments of lines and files, the last of them first.
use Rattle.std.proofs.Common.{◌≡◌, ◌≤◌, ◌<◌, ℕ, zero, suc, Bool, true, false, cond, List, [], ◌∷◌, ◌++◌, length, take, reverse, Option}
use Rattle.std.proofs.{Common.{Some, None, MatchOption, refl, sym, ◌∙◌, ap, ap₂, arith, subst, append_assoc}, Math.Seq.take-suc}
use Rattle.std.proofs.lemmas.{Bool.{or_parts, or_from}, List.{append-nil, reverse-append, get_or-map, Folds.list_any-append}}
use Rattle.std.specs.List.{list_any}
use Rattle.lc_glob.specs.{IsMatch.is_match, Patterns.{PatternModel, dead}, PatternSets.{last_match_below, pattern_at}}
use Rattle.lc_rules.specs.{Attributes.AssignmentModel, AttrLines.PatternLineModel, AttrStates.{by_line, by_lines}, WrittenLines.line_at}
use Rattle.lc_rules.specs.WrittenLines.{line_of, patterns_in}

by_lines_more : (ls : List PatternLineModel) (l : PatternLineModel) (path : List ℕ) (is_dir : Bool)
    → by_lines (ls ++ (l ∷ [])) path is_dir ≡ by_line l path is_dir ++ by_lines ls path is_dir
by_lines_more [] l path is_dir = sym (append-nil (by_line l path is_dir))
by_lines_more (x ∷ xs) l path is_dir = ap (λ t. t ++ by_line x path is_dir) (by_lines_more xs l path is_dir)
    ∙ append_assoc (by_line l path is_dir) (by_lines xs path is_dir) (by_line x path is_dir)

-- the first lines are read from the last of their patterns that matches
first_lines : (lines : List PatternLineModel) (path : List ℕ) (is_dir : Bool) (below : ℕ) → below ≤ length lines
    → MatchOption (last_match_below (patterns_in lines) path is_dir below) (by_lines (take below lines) path is_dir ≡ [])
    (λ index. by_lines (take below lines) path is_dir ≡ reverse (line_at lines index).assigns ++ by_lines (take index lines) path is_dir)
first_lines lines path is_dir zero within = refl
first_lines lines path is_dir (suc index) within =
    by_last (is_match (pattern_at (patterns_in lines) index) path is_dir) refl (omega (arith, within))
    (first_lines lines path is_dir index (omega (arith, within)))
  where
    one_more : index < length lines → by_lines (take (suc index) lines) path is_dir
        ≡ cond (is_match (pattern_at (patterns_in lines) index) path is_dir) (reverse (line_at lines index).assigns) []
        ++ by_lines (take index lines) path is_dir
    one_more low =
        ap (λ (ls : List PatternLineModel). by_lines ls path is_dir) (take-suc lines index (line_of None) low)
        ∙ by_lines_more (take index lines) (line_at lines index) path is_dir
        ∙ ap (λ (p : PatternModel). cond (is_match p path is_dir) (reverse (line_at lines index).assigns) []
        ++ by_lines (take index lines) path is_dir)
        (sym (get_or-map (λ (l : PatternLineModel). l.pattern) lines index (line_of None) dead low))

    by_last : (b : Bool) → is_match (pattern_at (patterns_in lines) index) path is_dir ≡ b → index < length lines
        → MatchOption (last_match_below (patterns_in lines) path is_dir index) (by_lines (take index lines) path is_dir ≡ [])
        (λ i. by_lines (take index lines) path is_dir ≡ reverse (line_at lines i).assigns ++ by_lines (take i lines) path is_dir)
        → MatchOption (cond b (Some index) (last_match_below (patterns_in lines) path is_dir index))
        (by_lines (take (suc index) lines) path is_dir ≡ [])
        (λ i. by_lines (take (suc index) lines) path is_dir ≡ reverse (line_at lines i).assigns ++ by_lines (take i lines) path is_dir)
    by_last true e low before =
        one_more low ∙ ap (λ (b : Bool). cond b (reverse (line_at lines index).assigns) [] ++ by_lines (take index lines) path is_dir) e
    by_last false e low before =
        subst (λ (todo : List AssignmentModel). MatchOption (last_match_below (patterns_in lines) path is_dir index) (todo ≡ [])
        (λ i. todo ≡ reverse (line_at lines i).assigns ++ by_lines (take i lines) path is_dir))
        (sym (one_more low ∙ ap (λ (b : Bool). cond b (reverse (line_at lines index).assigns) []
        ++ by_lines (take index lines) path is_dir) e))
        before

-- of lines whose patterns these are, the last that matches is read next, or none is left to be read
pub next_line : (lines : List PatternLineModel) (patterns : List PatternModel) (path seen : List ℕ) (is_dir : Bool) (below : ℕ)
    (found : Option ℕ) → below ≤ length lines → patterns ≡ patterns_in lines → seen ≡ path
    → found ≡ last_match_below patterns seen is_dir below
    → MatchOption found (by_lines (take below lines) path is_dir ≡ [])
    (λ index. by_lines (take below lines) path is_dir ≡ reverse (line_at lines index).assigns ++ by_lines (take index lines) path is_dir)
next_line lines patterns path seen is_dir below found within theirs same is =
    subst (λ (o : Option ℕ). MatchOption o (by_lines (take below lines) path is_dir ≡ [])
    (λ index. by_lines (take below lines) path is_dir ≡ reverse (line_at lines index).assigns ++ by_lines (take index lines) path is_dir))
    (sym (is ∙ ap₂ (λ (ps : List PatternModel) (p : List ℕ). last_match_below ps p is_dir below) theirs same))
    (first_lines lines path is_dir below within)

-- the last assignment is read first
pub assignments_last : (whole before : List AssignmentModel) (a : AssignmentModel) → whole ≡ before ++ (a ∷ [])
    → reverse whole ≡ a ∷ reverse before
assignments_last whole before a e = ap reverse e ∙ reverse-append before (a ∷ [])

-- where none of some assignments passes a test, none that is read does
reverse_none : (test : AssignmentModel → Bool) (assigns : List AssignmentModel) → list_any test assigns ≡ false
    → list_any test (reverse assigns) ≡ false
reverse_none test [] h = h
reverse_none test (a ∷ r) h =
    ap (list_any test) (reverse-append (a ∷ []) r)
    ∙ list_any-append test (reverse r) (a ∷ [])
    ∙ or_from (list_any test (reverse r)) (list_any test (a ∷ [])) (reverse_none test r ((or_parts (test a) (list_any test r) h).1))
    (or_from (test a) false ((or_parts (test a) (list_any test r) h).0) refl)

-- a line without an assignment of a kind gives none
pub line_none : (test : AssignmentModel → Bool) (l : PatternLineModel) (path : List ℕ) (is_dir : Bool)
    → list_any test l.assigns ≡ false → list_any test (by_line l path is_dir) ≡ false
line_none test l path is_dir h =
    elim (is_match l.pattern path is_dir) as (λ b. list_any test (cond b (reverse l.assigns) [])
    ≡ false) [ true ↦ reverse_none test l.assigns h | false ↦ refl ]

-- and so do such lines
pub lines_none : (test : AssignmentModel → Bool) (ls : List PatternLineModel) (path : List ℕ) (is_dir : Bool)
    → list_any (λ l. list_any test l.assigns) ls ≡ false → list_any test (by_lines ls path is_dir) ≡ false
lines_none test [] path is_dir h = refl
lines_none test (l ∷ ls) path is_dir h =
    list_any-append test (by_lines ls path is_dir) (by_line l path is_dir)
    ∙ or_from (list_any test (by_lines ls path is_dir)) (list_any test (by_line l path is_dir))
    (lines_none test ls path is_dir ((or_parts (list_any test l.assigns) (list_any (λ l. list_any test l.assigns) ls) h).1))
    (line_none test l path is_dir ((or_parts (list_any test l.assigns) (list_any (λ l. list_any test l.assigns) ls) h).0))
