-- No path stands twice in a walk of a tree whose listings are well-formed.
use Rattle.std.proofs.Common.{arith, ◌≡◌, ◌≢◌, ℕ, zero, suc, not, Bool, true, false, cond, List, [], ◌∷◌, ◌++◌, map, refl, sym, ◌∙◌, ap}
use Rattle.std.proofs.Common.{◌&&◌, subst, inl, inr, Result, append_assoc, append-nil, bytes_eq}
use Rattle.std.proofs.lemmas.{Grind.{common_steps, flat_map-append}, Bool.or_parts, List.map-append}
use Rattle.std.specs.List.{flat_map, AllByRecursion}
use Rattle.lc_census.specs.declared.line_count.Count.{Count}
use Rattle.lc_tree.specs.{Kinds.is_dir, Paths.names_of_path}
use Rattle.lc_level.specs.{declared.fault_word.FaultWord.FaultWord, Answers.{Item, file_item, directory_item, other_item, Tree, entry_of}}
use Rattle.lc_level.specs.{Answers.name_of, Job.JobModel, RuleFiles.extended, Level.{level_of_items, is_taken, fate_of, file_fate}}
use Rattle.lc_level.specs.{Level.{listed_level, walked_in, fates_of}, Narrowing.{stands_below, leads_to, part_of, absent_from}}
use Rattle.lc_level.specs.{Filters.FiltersModel, WellFormed.IsWellFormed}
use Rattle.lc_glob.specs.Path.{path_in, segments_of}
use Rattle.lc_walk.specs.Found.{Found, found_absent, path_of, found_by, found_of, found_at, children_of, children_at}
use Rattle.lc_walk.specs.RecursiveWalk.{walks_below, walk_by}
use Rattle.lc_board.proofs.Weights.{each-map, each-append}
use Rattle.lc_level.proofs.{WellFormed.{IsGoodName, Spread, bytes_other}, PathNames.one_name, Fates.{children_by, walked_items_are}}
use Rattle.lc_walk.proofs.AbsentPaths.{names_of_rest, not_below, not_above, rests_apart, NoneLeads, absent_distinct, absent_asked}
use Rattle.lc_walk.proofs.{AbsentPaths.absent_leads, Distinct.{Distinct, distinct-append, picked, each_picked, picked_distinct}}
use Rattle.lc_walk.proofs.{Distinct.picked_apart, Levels.{IsOwnPlace, own_level_keeps, well_formed_items, IsChild, each_child, good_names}}
use Rattle.lc_walk.proofs.PathGroups.{Below, Under, Group, IsGroup, groups_distinct, groups_below, groups_above}
use Rattle.lc_walk.proofs.{Places.names_of_path-path_in, TakingPart.{each_filter, spread_part}}

-- ---- which items are walked

-- an item whose fate is to be walked
abbrev enters_it : FiltersModel → JobModel → Item → Bool
enters_it filters j (directory_item n) = is_taken filters j n true
enters_it filters j item = false

abbrev stays : FiltersModel → JobModel → Item → Bool
stays filters j e = not (enters_it filters j e)

not_both : (b : Bool) → not b ≡ true → b ≡ true → ⊥
not_both b e t = grind (arith, common_steps)

path_of_file : (filters : FiltersModel) (d n : List ℕ) (j : JobModel) (c : Result Count FaultWord)
    → map path_of (found_by d (n, file_fate filters j n c)) ≡ path_in d n ∷ []
path_of_file filters d n j c = grind (arith, common_steps)

stays_so : (b : Bool) → cond b false true ≡ not b
stays_so b = grind (arith, common_steps)

always_so : (b : Bool) → cond b true true ≡ true
always_so b = grind (arith, common_steps)

path_by_item : (filters : FiltersModel) (j : JobModel) (e : Item)
    → map path_of (found_by j.path (name_of e, fate_of filters j e)) ≡ map (path_in j.path) (picked name_of (stays filters j) (e ∷ []))
path_by_item filters j (file_item n c r) = grind (arith, common_steps, path_of_file, always_so, stays_so, append-nil)
path_by_item filters j (directory_item n) = grind (arith, common_steps, path_of_file, always_so, stays_so, append-nil)
path_by_item filters j (other_item n what) = grind (arith, common_steps, path_of_file, always_so, stays_so, append-nil)

paths_by_items : (filters : FiltersModel) (j : JobModel) (es : List Item)
    → map path_of (flat_map (found_by j.path) (fates_of filters j es)) ≡ map (path_in j.path) (picked name_of (stays filters j) es)
paths_by_items filters j [] = refl
paths_by_items filters j (e ∷ es) = grind (arith, common_steps, map-append, path_by_item, append-nil, picked, paths_by_items filters j es)

child_names : (filters : FiltersModel) (j : JobModel) (es : List Item)
    → map (λ (c : List ℕ × JobModel). c.0) (flat_map (children_by filters j) es) ≡ picked name_of (enters_it filters j) es
child_names filters j [] = refl
child_names filters j (e ∷ es) = grind (arith, common_steps, map-append, children_by, child_names filters j es)

-- ---- a walk

module _ (filters : FiltersModel) where
  abbrev paths : List Found → List (List ℕ)
  paths xs = map path_of xs

  abbrev IsFine : List ℕ → List (List ℕ) → Type 0
  IsFine d ps = AllByRecursion (Below d) ps × Distinct ps

  abbrev walk : ℕ → JobModel → Tree → List Found
  walk k j t = walk_by (found_at filters) (children_at filters) k j t

  below_groups : (k : ℕ) (t : Tree) (cs : List (List ℕ × JobModel)) →
      paths (walks_below (found_at filters) (children_at filters) (walk k) t cs) ≡ flat_map (λ (g : Group). g.1)
      (map (λ c. (c.0, paths (walk k c.1 (λ p. t (c.0 ∷ p))))) cs)
  below_groups k t [] = refl
  below_groups k t (c ∷ cs) = grind (arith, common_steps, map-append, below_groups k t cs)

  own_groups : (d : List ℕ) (ns : List (List ℕ)) → map (path_in d) ns ≡ flat_map (λ (g : Group). g.1) (map (λ n. (n, path_in d n ∷ [])) ns)
  own_groups d [] = refl
  own_groups d (n ∷ ns) = ap (λ l. path_in d n ∷ l) (own_groups d ns)

  own_are : (d : List ℕ) (ns : List (List ℕ)) → AllByRecursion IsGoodName ns
      → AllByRecursion (IsGroup d) (map (λ n. (n, path_in d n ∷ [])) ns)
  own_are d [] a = tt
  own_are d (n ∷ ns) a = (((([], names_of_path-path_in d n a.0), tt), (tt, tt)), own_are d ns a.1)

  children_are : (k : ℕ) (d : List ℕ) (t : Tree) (cs : List (List ℕ × JobModel)) → AllByRecursion (IsChild d) cs →
      ((j : JobModel) (u : List ℕ) → IsFine j.path (paths (walk k j (λ p. t (u ∷ p))))) →
      AllByRecursion (IsGroup d) (map (λ c. (c.0, paths (walk k c.1 (λ p. t (c.0 ∷ p))))) cs)
  children_are k d t [] a rec = tt
  children_are k d t (c ∷ cs) a rec =
      let r = rec c.1 c.0 in (
        (
          each-map (Below c.1.path) (Under d c.0)
              (λ x b. (
                b.0,
                b.1 ∙ ap (λ p. names_of_path p ++ b.0) a.0.1 ∙ ap (λ l. l ++ b.0) (names_of_path-path_in d c.0 a.0.0)
                    ∙ append_assoc (names_of_path d) (c.0 ∷ []) b.0,
              )) (paths (walk k c.1 (λ p. t (c.0 ∷ p)))) r.0,
          r.1,
        ),
        children_are k d t cs a.1 rec,
      )

  names_first : (ns : List (List ℕ)) (d : List ℕ) → map (λ (g : Group). g.0) (map (λ n. (n, path_in d n ∷ [])) ns) ≡ ns
  names_first [] d = refl
  names_first (n ∷ ns) d = ap (λ l. n ∷ l) (names_first ns d)

  names_after : (k : ℕ) (t : Tree) (cs : List (List ℕ × JobModel))
      → map (λ (g : Group). g.0) (map (λ c. (c.0, paths (walk k c.1 (λ p. t (c.0 ∷ p))))) cs) ≡ map (λ c. c.0) cs
  names_after k t [] = refl
  names_after k t (c ∷ cs) = ap (λ l. c.0 ∷ l) (names_after k t cs)

  names_apart_of : (es : List Item) → Spread es → Distinct (map name_of es)
  names_apart_of [] s = tt
  names_apart_of (e ∷ es) s = (
    others es s.0,
    names_apart_of es s.2,
  )
    where
      others : (ds : List Item) → AllByRecursion (λ d. bytes_eq (name_of d) (name_of e) ≡ false) ds
          → AllByRecursion (λ n. name_of e ≢ n) (map name_of ds)
      others [] a = tt
      others (d ∷ ds) a = ((λ s. bytes_other (name_of d) (name_of e) a.0 (sym s)), others ds a.1)

  -- each entry that isn't walked is a group of one path, and each child directory that of its walk
  abbrev own_groups_of : JobModel → List Item → List Group
  own_groups_of j es = map (λ n. (n, path_in j.path n ∷ [])) (picked name_of (stays filters j) es)

  abbrev child_groups_of : ℕ → Tree → List (List ℕ × JobModel) → List Group
  child_groups_of k t cs = map (λ c. (c.0, paths (walk k c.1 (λ p. t (c.0 ∷ p))))) cs

  abbrev groups_of : ℕ → JobModel → Tree → List Item → List Group
  groups_of k j t es = own_groups_of j es ++ child_groups_of k t (walked_in (fates_of filters j es))

  -- ---- what is absent

  absent_paths : (d : List ℕ) (absent : List (List ℕ)) → map path_of (map (found_absent d) absent) ≡ map (path_in d) absent
  absent_paths d [] = refl
  absent_paths d (r ∷ rs) = ap (λ l. path_in d r ∷ l) (absent_paths d rs)

  absent_below : (d : List ℕ) (absent : List (List ℕ)) → AllByRecursion (λ r. d ≡ [] → r ≢ []) absent
      → AllByRecursion (Below d) (map (path_in d) absent)
  absent_below d [] a = tt
  absent_below d (r ∷ rs) a = ((segments_of r, names_of_rest d r a.0), absent_below d rs a.1)

  -- no group of a level has a path to which no item leads
  absent_no_own : (d r : List ℕ) (ns : List (List ℕ)) → AllByRecursion (λ n. bytes_eq n r ≡ false) ns
      → AllByRecursion (λ x. path_in d r ≢ x) (flat_map (λ (g : Group). g.1) (map (λ n. (n, path_in d n ∷ [])) ns))
  absent_no_own d r [] a = tt
  absent_no_own d r (n ∷ ns) a = ((λ e. bytes_other n r a.0 (sym (one_name d r n e))), absent_no_own d r ns a.1)

  -- a child directory stands neither at nor above a path
  abbrev IsApartFrom : List ℕ → List ℕ × JobModel → Type 0
  IsApartFrom r c = (bytes_eq c.0 r ≡ false) × (stands_below r c.0 ≡ false)

  absent_no_child : (k : ℕ) (d r : List ℕ) (t : Tree) (cs : List (List ℕ × JobModel)) → (d ≡ [] → r ≢ []) →
      AllByRecursion (IsApartFrom r) cs →
      AllByRecursion (IsGroup d) (child_groups_of k t cs) →
      AllByRecursion (λ x. path_in d r ≢ x) (flat_map (λ (g : Group). g.1) (child_groups_of k t cs))
  absent_no_child k d r t [] some a groups = tt
  absent_no_child k d r t (c ∷ cs) some a groups =
      grind (arith, common_steps, each-append, each-map, not_below, absent_no_child k d r t cs some a.1 groups.1)

  no_child_led : (j : JobModel) (r : List ℕ) (es : List Item) → NoneLeads filters.only j.path es r →
      AllByRecursion (IsApartFrom r) (flat_map (children_by filters j) es)
  no_child_led j r [] a = tt
  no_child_led j r (directory_item n ∷ es) a = grind (arith, common_steps, or_parts, children_by, no_child_led j r es a.1)
  no_child_led j r (item ∷ es) a = no_child_led j r es a.1

  children_good : (k : ℕ) (j : JobModel) (t : Tree) (es : List Item) → Spread es →
      ((i : JobModel) (u : List ℕ) → IsFine i.path (paths (walk k i (λ p. t (u ∷ p))))) →
      AllByRecursion (IsGroup j.path) (child_groups_of k t (walked_in (fates_of filters j es)))
  children_good k j t es s rec =
      children_are k j.path t (walked_in (fates_of filters j es))
      (each_child filters j (IsChild j.path) IsGoodName (λ n g. (g, refl)) es (good_names es s)) rec

  absent_elsewhere : (k : ℕ) (j : JobModel) (t : Tree) (es : List Item) (absent : List (List ℕ)) →
      AllByRecursion (λ r. j.path ≡ [] → r ≢ []) absent → AllByRecursion (NoneLeads filters.only j.path es) absent →
      AllByRecursion (IsGroup j.path) (child_groups_of k t (walked_in (fates_of filters j es))) →
      AllByRecursion (λ x. AllByRecursion (λ y. x ≢ y) (j.path ∷ flat_map (λ (g : Group). g.1) (groups_of k j t es)))
      (map (path_in j.path) absent)
  absent_elsewhere k j t es [] asked leads groups = tt
  absent_elsewhere k j t es (r ∷ rs) asked leads groups = (
    (
      not_above j.path r asked.0,
      subst (AllByRecursion (λ y. path_in j.path r ≢ y))
          (sym (flat_map-append (λ (g : Group). g.1) (own_groups_of j es) (child_groups_of k t (walked_in (fates_of filters j es)))))
          (each-append (λ y. path_in j.path r ≢ y) _ _
          (absent_no_own j.path r (picked name_of (stays filters j) es)
          (each_picked name_of (stays filters j) (λ n. bytes_eq n r ≡ false) es
          (each-map (λ item. leads_to (entry_of item) r ≡ false) (λ item. bytes_eq (name_of item) r ≡ false)
          (λ item e. (or_parts (bytes_eq (name_of item) r) (is_dir (entry_of item).kind && stands_below r (name_of item)) e).0)
          es leads.0)))
          (absent_no_child k j.path r t (walked_in (fates_of filters j es)) asked.0
          (subst (AllByRecursion (IsApartFrom r)) (sym (walked_items_are filters j es))
          (no_child_led j r es leads.0)) groups)),
    ),
    absent_elsewhere k j t es rs asked.1 leads.1 groups,
  )

  -- what is found of the items that take part, with the walks of their children
  of_part : (k : ℕ) (j : JobModel) (t : Tree) (es : List Item) → Spread es →
      ((i : JobModel) (u : List ℕ) → IsFine i.path (paths (walk k i (λ p. t (u ∷ p))))) →
      IsFine j.path (j.path ∷ flat_map (λ (g : Group). g.1) (groups_of k j t es))
  of_part k j t es s rec =
      let cs : List (List ℕ × JobModel) = walked_in (fates_of filters j es) in
      let ns : List (List ℕ) = picked name_of (stays filters j) es in
      let owns : List Group = own_groups_of j es in
      let kids : List Group = child_groups_of k t cs in
      let groups : AllByRecursion (IsGroup j.path) (owns ++ kids) =
      each-append (IsGroup j.path) owns kids (own_are j.path ns (each_picked name_of (stays filters j) IsGoodName es (good_names es s)))
      (children_good k j t es s rec) in
      let all_names : map (λ (g : Group). g.0) (owns ++ kids) ≡ ns ++ picked name_of (enters_it filters j) es =
      map-append (λ (g : Group). g.0) owns kids ∙ ap (λ l. l ++ map (λ (g : Group). g.0) kids) (names_first ns j.path)
      ∙ ap (λ l. ns ++ l) (names_after k t cs ∙ ap (map (λ (c : List ℕ × JobModel). c.0)) (walked_items_are filters j es)
      ∙ child_names filters j es) in
      let apart : Distinct (map name_of es) = names_apart_of es s in
      let distinct : Distinct (map (λ (g : Group). g.0) (owns ++ kids)) =
      subst Distinct (sym all_names) (distinct-append ns (picked name_of (enters_it filters j) es)
      (picked_distinct name_of (stays filters j) es apart) (picked_distinct name_of (enters_it filters j) es apart)
      (picked_apart name_of (stays filters j) (enters_it filters j) (λ e. not_both (enters_it filters j e)) es apart)) in
      let own_path : Below j.path j.path = ([], sym (append-nil (names_of_path j.path))) in (
        (own_path, groups_below j.path (owns ++ kids) groups),
        (groups_above j.path (owns ++ kids) groups, groups_distinct j.path (owns ++ kids) groups distinct),
      )

  -- the paths of all that is found of a level: what is absent, the directory, and what stands below it
  level_paths : (k : ℕ) (j : JobModel) (t : Tree) (es : List Item) (absent : List (List ℕ)) →
      paths (found_of j (listed_level (fates_of filters j es) absent)
      ++ walks_below (found_at filters) (children_at filters) (walk k) t (walked_in (fates_of filters j es)))
      ≡ map (path_in j.path) absent ++ j.path ∷ flat_map (λ (g : Group). g.1) (groups_of k j t es)
  level_paths k j t es absent =
      grind (arith, common_steps, map-append, paths_by_items, own_groups, picked, below_groups, flat_map-append, append_assoc, absent_paths)

  -- a level of items, with the walks of its children
  of_items : (k : ℕ) (j : JobModel) (t : Tree) (es : List Item) → Spread es →
      ((i : JobModel) (u : List ℕ) → IsFine i.path (paths (walk k i (λ p. t (u ∷ p))))) →
      IsFine j.path (paths (found_of j (level_of_items filters es j)
      ++ walks_below (found_at filters) (children_at filters) (walk k) t (children_of (level_of_items filters es j))))
  of_items k j t es s rec =
      let part : List Item = part_of filters.only j.path es in
      let absent : List (List ℕ) = absent_from filters.only j.path es in
      let within : IsFine j.path (j.path ∷ flat_map (λ (g : Group). g.1) (groups_of k j t part)) =
      of_part k j t part (spread_part filters.only j.path es s) rec in
      let asked : AllByRecursion (λ r. j.path ≡ [] → r ≢ []) absent = grind (arith, common_steps, each-map, absent_asked) in
      subst (IsFine j.path) (sym (level_paths k j t part absent)) (
        each-append (Below j.path) (map (path_in j.path) absent) _ (absent_below j.path absent asked) within.0,
        distinct-append (map (path_in j.path) absent) _ (rests_apart j.path absent (absent_distinct filters.only j.path es)) within.1
            (absent_elsewhere k j t part absent asked
            (each-map (NoneLeads filters.only j.path es) (NoneLeads filters.only j.path part)
            (λ r a. each_filter _ _ es a) absent (absent_leads filters.only j.path es))
            (children_good k j t part (spread_part filters.only j.path es s) rec)),
      )

  own_below : (d p : List ℕ) → IsOwnPlace d p → Below d p
  own_below d p (inl e) = ([], ap names_of_path e ∙ sym (append-nil (names_of_path d)))
  own_below d p (inr (inl n)) = (n.0 ∷ [], ap names_of_path n.2 ∙ names_of_path-path_in d n.0 n.1)
  own_below d p (inr (inr e)) = (names_of_path p, ap (λ x. names_of_path x ++ names_of_path p) (sym e))

  -- so no path stands twice in the walk
  pub fine : (k : ℕ) (j : JobModel) (t : Tree) → ((p : List (List ℕ)) → IsWellFormed (t p)) → IsFine j.path (paths (walk k j t))
  fine zero j t well_formed = (tt, tt)
  fine (suc k) j t well_formed =
      own_level_keeps
      (λ l. IsFine j.path (paths (found_of j l ++ walks_below (found_at filters) (children_at filters) (walk k) t (children_of l))))
      filters j (t [])
      (λ p w o. ((own_below j.path p o, tt), (tt, tt)))
      (λ es e b. of_items k (extended j b) t es (well_formed_items (t []) (well_formed []) es e)
      (λ i u. fine k i (λ p. t (u ∷ p)) (λ p. well_formed (u ∷ p))))
