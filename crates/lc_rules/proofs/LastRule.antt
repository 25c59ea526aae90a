-- The rule that decides, from the newest rule to the oldest.
use Rattle.std.proofs.Common.{◌≡◌, ◌≤◌, ◌<◌, ℕ, zero, suc, Bool, true, false, cond, List, [], ◌∷◌, ◌++◌, Option, Some, None, filter}
use Rattle.std.proofs.{Common.{length, take, get_or, refl, sym, ◌∙◌, ap, ap₂, arith}, Math.Seq.{take-suc, take-length}}
use Rattle.std.proofs.lemmas.List.{map-append, get_or-map, Elements.filter-append}
use Rattle.std.specs.{Prelude.option_map, Option.option_or, List.last_or}
use Rattle.lc_glob.specs.{IsMatch.is_match, Patterns.{PatternModel, dead}, PatternSets.{last_match_below, pattern_at}}
use Rattle.lc_rules.specs.{IgnoreRules.{RuleModel, patterns_of}, IgnoreChains.{ChainModel, joined, rules_if, rules_in}, Verdicts.below}
use Rattle.lc_rules.specs.{Verdicts.{rule_matches, last_match, depth_at, at_depth, from_file}, declared.rule_source.RuleSource.RuleSource}
use Rattle.lc_rules.specs.declared.rule_source.RuleSource.TheVariants.{ExcludeFrom, InfoExclude, Gitignore, CommandLine}

last_or-append : {A : Type 0} (o : Option A) (xs ys : List A) → last_or o (xs ++ ys) ≡ last_or (last_or o xs) ys
last_or-append o [] ys = refl
last_or-append o (x ∷ xs) ys = last_or-append (Some x) xs ys

last_or_some : {A : Type 0} (y : A) (ys : List A) (o : Option A) → last_or (Some y) ys ≡ option_or (last_or (Some y) ys) o
last_or_some y [] o = refl
last_or_some y (z ∷ zs) o = last_or_some z zs o

last_or_else : {A : Type 0} (o : Option A) (ys : List A) → last_or o ys ≡ option_or (last_or None ys) o
last_or_else o [] = refl
last_or_else o (y ∷ ys) = last_or_some y ys o

-- the newer rules decide, and where none of them matches the older
pub last_match-append : (older newer : List (RuleSource × RuleModel)) (path : List ℕ) (is_dir : Bool)
    → last_match (older ++ newer) path is_dir ≡ option_or (last_match newer path is_dir) (last_match older path is_dir)
last_match-append older newer path is_dir =
    ap (last_or None) (filter-append (rule_matches path is_dir) older newer)
    ∙ last_or-append None (filter (rule_matches path is_dir) older) (filter (rule_matches path is_dir) newer)
    ∙ last_or_else (last_match older path is_dir) (filter (rule_matches path is_dir) newer)

-- one rule alone decides where it matches
pub last_match_one : (r : RuleSource × RuleModel) (path : List ℕ) (is_dir : Bool) (b : Bool) → rule_matches path is_dir r ≡ b
    → last_match (r ∷ []) path is_dir ≡ cond b (Some r) None
last_match_one r path is_dir true e = ap (λ t. last_or None (cond t (r ∷ []) [])) e
last_match_one r path is_dir false e = ap (λ t. last_or None (cond t (r ∷ []) [])) e

-- the newest rule of one file decides where it matches, and else the others do
module _ (whole older : List RuleModel) (r : RuleModel) (path : List ℕ) (is_dir : Bool) (split : whole ≡ older ++ r ∷ []) where
  file_newest : last_match (at_depth 0 whole) path is_dir
      ≡ option_or (last_match ((Gitignore 0, r) ∷ []) path is_dir) (last_match (at_depth 0 older) path is_dir)
  file_newest =
      ap (λ l. last_match (at_depth 0 l) path is_dir) split
      ∙ ap (λ l. last_match l path is_dir) (map-append (λ (x : RuleModel). (Gitignore 0, x)) older (r ∷ []))
      ∙ last_match-append (at_depth 0 older) ((Gitignore 0, r) ∷ []) path is_dir

  -- where it matches
  pub newest_decides : is_match r.pattern path is_dir ≡ true → Some (Gitignore 0, r) ≡ last_match (at_depth 0 whole) path is_dir
  newest_decides h =
      sym (file_newest ∙ ap (λ o. option_or o (last_match (at_depth 0 older) path is_dir))
      (last_match_one (Gitignore 0, r) path is_dir true h))

  -- where it doesn't match
  pub newest_passes : is_match r.pattern path is_dir ≡ false
      → last_match (at_depth 0 whole) path is_dir ≡ last_match (at_depth 0 older) path is_dir
  newest_passes h =
      file_newest ∙ ap (λ o. option_or o (last_match (at_depth 0 older) path is_dir)) (last_match_one (Gitignore 0, r) path is_dir false h)

-- the first rules of a file decide by the last of their patterns that matches
first_rules_decide : (d : RuleModel) (rules : List RuleModel) (path : List ℕ) (is_dir : Bool) (below : ℕ) → below ≤ length rules
    → option_map (λ index. (Gitignore 0, get_or rules index d)) (last_match_below (patterns_of rules) path is_dir below)
    ≡ last_match (at_depth 0 (take below rules)) path is_dir
first_rules_decide d rules path is_dir zero within = refl
first_rules_decide d rules path is_dir (suc index) within =
    by_newest (is_match (pattern_at (patterns_of rules) index) path is_dir) refl (omega (arith, within))
    (first_rules_decide d rules path is_dir index (omega (arith, within)))
  where
    theirs : index < length rules → pattern_at (patterns_of rules) index ≡ (get_or rules index d).pattern
    theirs low = get_or-map (λ (r : RuleModel). r.pattern) rules index d dead low

    by_newest : (b : Bool) → is_match (pattern_at (patterns_of rules) index) path is_dir ≡ b → index < length rules
        → option_map (λ i. (Gitignore 0, get_or rules i d)) (last_match_below (patterns_of rules) path is_dir index)
        ≡ last_match (at_depth 0 (take index rules)) path is_dir
        → option_map (λ i. (Gitignore 0, get_or rules i d))
        (cond b (Some index) (last_match_below (patterns_of rules) path is_dir index))
        ≡ last_match (at_depth 0 (take (suc index) rules)) path is_dir
    by_newest true e low before =
        newest_decides (take (suc index) rules) (take index rules) (get_or rules index d) path is_dir (take-suc rules index d low)
        (ap (λ p. is_match p path is_dir) (sym (theirs low)) ∙ e)
    by_newest false e low before =
        before
        ∙ sym (newest_passes (take (suc index) rules) (take index rules) (get_or rules index d) path is_dir (take-suc rules index d low)
        (ap (λ p. is_match p path is_dir) (sym (theirs low)) ∙ e))

-- and so do all of them
pub pattern_decides : (d : RuleModel) (rules : List RuleModel) (patterns : List PatternModel) (path seen : List ℕ) (is_dir : Bool)
    (count : ℕ) (found : Option ℕ) → patterns ≡ patterns_of rules → seen ≡ path → count ≡ length rules
    → found ≡ last_match_below patterns seen is_dir count
    → option_map (λ index. (Gitignore 0, get_or rules index d)) found ≡ last_match (at_depth 0 rules) path is_dir
pattern_decides d rules patterns path seen is_dir count found theirs same all is =
    ap (option_map (λ index. (Gitignore 0, get_or rules index d))) (is
    ∙ ap (λ n. last_match_below patterns seen is_dir n) all
    ∙ ap₂ (λ ps p. last_match_below ps p is_dir (length rules)) theirs same)
    ∙ first_rules_decide d rules path is_dir (length rules) (omega arith)
    ∙ ap (λ l. last_match (at_depth 0 l) path is_dir) (take-length rules)

-- the rules of one file that match are those that match by the path below its directory
filter_file : (o : RuleSource) (rules : List RuleModel) (path : List ℕ) (is_dir : Bool)
    → filter (rule_matches path is_dir) (from_file o rules)
    ≡ from_file o (filter (λ r. is_match r.pattern (below (depth_at o) path) is_dir) rules)
filter_file o [] path is_dir = refl
filter_file o (r ∷ rs) path is_dir =
    elim (is_match r.pattern (below (depth_at o) path) is_dir) as
    (λ b. cond b ((o, r) ∷ filter (rule_matches path is_dir) (from_file o rs)) (filter (rule_matches path is_dir) (from_file o rs))
    ≡ from_file o (cond b (r ∷ filter (λ r. is_match r.pattern (below (depth_at o) path) is_dir) rs)
    (filter (λ r. is_match r.pattern (below (depth_at o) path) is_dir) rs)))
    [ true ↦ ap (λ l. (o, r) ∷ l) (filter_file o rs path is_dir) | false ↦ filter_file o rs path is_dir ]

last_or-file : (o p : RuleSource) (x : Option (RuleSource × RuleModel)) (rules : List RuleModel)
    → last_or (option_map (λ r. (o, r.1)) x) (from_file o rules) ≡ option_map (λ r. (o, r.1)) (last_or x (from_file p rules))
last_or-file o p x [] = refl
last_or-file o p x (r ∷ rs) = last_or-file o p (Some (p, r)) rs

-- a file's rules see the path without the segments above it
pub file_below : (o : RuleSource) (rules : List RuleModel) (path : List ℕ) (is_dir : Bool)
    → last_match (from_file o rules) path is_dir
    ≡ option_map (λ r. (o, r.1)) (last_match (at_depth 0 rules) (below (depth_at o) path) is_dir)
file_below o rules path is_dir =
    ap (last_or None) (filter_file o rules path is_dir)
    ∙ last_or-file o (Gitignore 0) None (filter (λ r. is_match r.pattern (below (depth_at o) path) is_dir) rules)
    ∙ ap (λ l. option_map (λ r. (o, r.1)) (last_or None l)) (sym (filter_file (Gitignore 0) rules (below (depth_at o) path) is_dir))

-- of a chain whose first file stands at this depth
module _ (files nearer : List (ℕ × List RuleModel)) (d : ℕ) (rules : List RuleModel) (split : files ≡ (d, rules) ∷ nearer)
    (path inner : List ℕ) (cut : inner ≡ below d path) (is_dir : Bool) where
  -- the nearer files decide, or else the first, which sees the path below its directory
  pub nearer_decide : (found here : Option (RuleSource × RuleModel)) → found ≡ last_match (joined nearer) path is_dir
      → here ≡ last_match (at_depth 0 rules) inner is_dir
      → option_or found (option_map (λ r. (Gitignore d, r.1)) here) ≡ last_match (joined files) path is_dir
  nearer_decide found here by_nearer by_first =
      ap₂ (λ x y. option_or x (option_map (λ r. (Gitignore d, r.1)) y)) by_nearer
      (by_first ∙ ap (λ p. last_match (at_depth 0 rules) p is_dir) cut)
      ∙ ap (option_or (last_match (joined nearer) path is_dir)) (sym (file_below (Gitignore d) rules path is_dir))
      ∙ sym (ap (λ l. last_match (joined l) path is_dir) split ∙ last_match-append (at_depth d rules) (joined nearer) path is_dir)

-- the command line decides, or else the files of the tree, or else that of `.git/info`, or else the exclude file
pub chain_decides : (c : ChainModel) (path : List ℕ) (is_dir : Bool) (given tree info exclude : Option (RuleSource × RuleModel))
    → given ≡ last_match (rules_if CommandLine c.command_line) path is_dir
    → tree ≡ last_match (joined c.tree) path is_dir → info ≡ last_match (rules_if (InfoExclude 0) c.info) path is_dir
    → exclude ≡ last_match (rules_if ExcludeFrom c.exclude) path is_dir
    → option_or given (option_or tree (option_or info exclude)) ≡ last_match (rules_in c) path is_dir
chain_decides c path is_dir given tree info exclude by_given by_tree by_info by_exclude =
    ap₂ option_or by_given (ap₂ option_or by_tree (ap₂ option_or by_info by_exclude)
    ∙ sym (last_match-append (rules_if ExcludeFrom c.exclude ++ rules_if (InfoExclude 0) c.info) (joined c.tree) path is_dir
    ∙ ap (option_or (last_match (joined c.tree) path is_dir))
    (last_match-append (rules_if ExcludeFrom c.exclude) (rules_if (InfoExclude 0) c.info) path is_dir)))
    ∙ sym (last_match-append (rules_if ExcludeFrom c.exclude ++ rules_if (InfoExclude 0) c.info ++ joined c.tree)
    (rules_if CommandLine c.command_line) path is_dir)

-- a file at the top decides as it does alone, by rules of its own source
pub file_decides : {B : Type 0} (now : B → RuleModel) (o : RuleSource) (file : Option (List RuleModel)) (rules : List RuleModel)
    (path : List ℕ) (is_dir : Bool) (found : Option B) → depth_at o ≡ 0 → file ≡ Some rules
    → option_map (λ r. (Gitignore 0, now r)) found ≡ last_match (at_depth 0 rules) path is_dir
    → option_map (λ r. (o, now r)) found ≡ last_match (rules_if o file) path is_dir
file_decides {B} now o file rules path is_dir found top is by_file =
    same found
    ∙ (ap of_source by_file
    ∙ (ap (λ d. of_source (last_match (at_depth 0 rules) (below d path) is_dir)) (sym top)
    ∙ (sym (file_below o rules path is_dir) ∙ ap (λ f. last_match (rules_if o f) path is_dir) (sym is))))
  where
    of_source : Option (RuleSource × RuleModel) → Option (RuleSource × RuleModel)
    of_source x = option_map (λ r. (o, r.1)) x

    same : (x : Option B) → option_map (λ r. (o, now r)) x ≡ of_source (option_map (λ r. (Gitignore 0, now r)) x)
    same None = refl
    same (Some r) = refl
