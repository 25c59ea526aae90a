-- The paths that are asked for and absent, by the names from the top down to them.
use Rattle.std.proofs.Common.{arith, rules, ◌≡◌, ◌≢◌, ℕ, ◌==◌, Bool, true, false, cond, List, [], ◌∷◌, ◌++◌, map, refl, sym, ◌∙◌, ap}
use Rattle.std.proofs.{Common.{subst, inl, inr, ◌⊎◌, Option, Some, None, append-nil, bytes_eq, eq-eqb}, lemmas.Grind.common_steps}
use Rattle.std.proofs.lemmas.Bool.{eqb-true, or_parts, not-true}
use Rattle.std.proofs.lemmas.List.{append_cancel_left, Splits.{slice_split-cons_yes, slice_split-cons_no}}
use Rattle.std.specs.List.{filter, filter_map, cons_option, list_any, onto_first, AllByRecursion, Sorted.IsStrictlySortedBy}
use Rattle.std.specs.Option.{is_some}
use Rattle.lc_board.proofs.Weights.{each-map}
use Rattle.lc_glob.specs.{Bytes.slash, Path.{path_in, segments_of}}
use Rattle.lc_glob.proofs.Naming.{segments_apart, some_segment}
use Rattle.lc_level.specs.{Answers.{Item, entry_of}, Narrowing.{after, stands_below, rest_from, put_among, each_once, leads_to}}
use Rattle.lc_level.specs.Narrowing.{absent_from, paths_in}
use Rattle.lc_level.proofs.{AskedPaths.rest_is, EachOnce.once_in_order, PathOrder.not_itself, WellFormed.{bytes_other, clash}}
use Rattle.lc_level.proofs.PathNames.{one_name}
use Rattle.lc_tree.specs.{ByteOrder.AreInOrder, Paths.names_of_path}
use Rattle.lc_walk.proofs.{Distinct.Distinct, Elements.In, TakingPart.{each_filter, each_passes}}

-- ---- paths seen from a directory

-- the names of a path that is seen from a directory
pub names_of_rest : (d rest : List ℕ) → (d ≡ [] → rest ≢ []) → names_of_path (path_in d rest) ≡ names_of_path d ++ segments_of rest
names_of_rest [] [] some = absurd (some refl refl)
names_of_rest [] (b ∷ bs) some = refl
names_of_rest (c ∷ cs) rest some = segments_apart (c ∷ cs) rest

-- what begins with a name is this name, or stands below it
first_segment : (rest name : List ℕ) (more : List (List ℕ)) → segments_of rest ≡ name ∷ more
    → (rest ≡ name) ⊎ (stands_below rest name ≡ true)
first_segment [] name more e = let h : [] ∷ [] ≡ name ∷ more = e in inl (cc h)
first_segment (b ∷ bs) name more e = at (b == 47) refl (segments_of bs) refl (λ part parts is. first_segment bs part parts is)
  where
    named : (part : List ℕ) → b ∷ part ≡ name → (bs ≡ part) ⊎ (stands_below bs part ≡ true)
        → (b ∷ bs ≡ name) ⊎ (stands_below (b ∷ bs) name ≡ true)
    named part is (inl same) = inl (ap (λ l. b ∷ l) same ∙ is)
    named part is (inr below) =
        inr (subst (λ n. stands_below (b ∷ bs) n ≡ true) is
        (ap (λ t. is_some (cond t (after (part ++ slash ∷ []) bs) None)) (eq-eqb b b refl) ∙ below))

    at : (t : Bool) → (b == 47) ≡ t → (parts : List (List ℕ)) → segments_of bs ≡ parts
        → ((part : List ℕ) (parts : List (List ℕ)) → segments_of bs ≡ part ∷ parts → (bs ≡ part) ⊎ (stands_below bs part ≡ true))
        → (b ∷ bs ≡ name) ⊎ (stands_below (b ∷ bs) name ≡ true)
    at true s parts is later =
        let h : [] ∷ segments_of bs ≡ name ∷ more = sym (slice_split-cons_yes (λ c. c == 47) b bs s) ∙ e in
        let none : [] ≡ name = cc h in
        inr (subst (λ n. stands_below (b ∷ bs) n ≡ true) none
        (ap (λ t. is_some (cond t (Some bs) None)) (eq-eqb 47 b (sym (eqb-true b 47 s)))))
    at false s [] is later = absurd (some_segment bs is)
    at false s (part ∷ parts) is later =
        let h : (b ∷ part) ∷ parts ≡ name ∷ more =
        sym (slice_split-cons_no (λ c. c == 47) b bs s ∙ ap (onto_first b) is) ∙ e in
        let first : b ∷ part ≡ name = cc h in
        named part first (later part parts is)

-- what doesn't begin with a name stands neither there nor below it
pub not_below : (d rest name path : List ℕ) (more : List (List ℕ)) → (d ≡ [] → rest ≢ []) → bytes_eq name rest ≡ false
    → stands_below rest name ≡ false → names_of_path path ≡ names_of_path d ++ name ∷ more → path_in d rest ≢ path
not_below d rest name path more some other elsewhere names =
    search (rules, arith, first_segment, append_cancel_left, names_of_rest, bytes_other, clash)

-- nor at the directory
pub not_above : (d rest : List ℕ) → (d ≡ [] → rest ≢ []) → path_in d rest ≢ d
not_above d rest some e =
    some_segment rest
    (append_cancel_left (names_of_path d) (segments_of rest) []
    (sym (names_of_rest d rest some) ∙ ap names_of_path e ∙ sym (append-nil (names_of_path d))))

-- two that differ have two paths
pub rests_apart : (d : List ℕ) (rs : List (List ℕ)) → Distinct rs → Distinct (map (path_in d) rs)
rests_apart d [] a = tt
rests_apart d (r ∷ rs) a = (others rs a.0, rests_apart d rs a.1)
  where
    others : (qs : List (List ℕ)) → AllByRecursion (λ q. r ≢ q) qs → AllByRecursion (λ p. path_in d r ≢ p) (map (path_in d) qs)
    others [] b = tt
    others (q ∷ qs) b = ((λ e. b.0 (one_name d r q e)), others qs b.1)

-- ---- each path once

rising_distinct : (paths : List (List ℕ)) → AreInOrder paths → Distinct paths
unfolding IsStrictlySortedBy
rising_distinct [] order = tt
rising_distinct (path ∷ paths) order = grind (arith, common_steps, each-map, not_itself, rising_distinct paths order.1)

-- ---- the paths seen from a directory

module _ (d : List ℕ) where
  -- the path of one is asked for
  abbrev IsRestOf : List (List ℕ) → List ℕ → Type 0
  IsRestOf paths rest = (path : List ℕ) × In path paths × (rest_from d path ≡ Some rest)

  rests_of : (paths : List (List ℕ)) → AllByRecursion (IsRestOf paths) (filter_map (rest_from d) paths)
  rests_of [] = tt
  rests_of (path ∷ paths) = grind (arith, common_steps, each-map, rests_of paths)

  -- one rest has one path
  one_path : (p q r s : List ℕ) → rest_from d p ≡ Some r → rest_from d q ≡ Some s → p ≢ q → r ≢ s
  one_path p q r s e f other same = other (rest_is d p r e ∙ ap (path_in d) same ∙ sym (rest_is d q s f))

  rests_distinct : (paths : List (List ℕ)) → Distinct paths → Distinct (filter_map (rest_from d) paths)
  rests_distinct [] a = tt
  rests_distinct (path ∷ paths) a = at (rest_from d path) refl (rests_distinct paths a.1)
    where
      others : (r : List ℕ) → rest_from d path ≡ Some r → (qs : List (List ℕ)) → AllByRecursion (λ q. path ≢ q) qs
          → AllByRecursion (λ s. r ≢ s) (filter_map (rest_from d) qs)
      others r e [] b = tt
      others r e (q ∷ qs) b = one (rest_from d q) refl (others r e qs b.1)
        where
          one : (o : Option (List ℕ)) → rest_from d q ≡ o → AllByRecursion (λ s. r ≢ s) (filter_map (rest_from d) qs)
              → AllByRecursion (λ s. r ≢ s) (cons_option o (filter_map (rest_from d) qs))
          one None f rest = rest
          one (Some s) f rest = (one_path path q r s e f b.0, rest)

      at : (o : Option (List ℕ)) → rest_from d path ≡ o → Distinct (filter_map (rest_from d) paths)
          → Distinct (cons_option o (filter_map (rest_from d) paths))
      at None e rest = rest
      at (Some r) e rest = (others r e paths a.0, rest)

distinct_filter : (p : List ℕ → Bool) (xs : List (List ℕ)) → Distinct xs → Distinct (filter p xs)
distinct_filter p [] a = tt
distinct_filter p (x ∷ xs) a = grind (arith, common_steps, each_filter, distinct_filter p xs a.1)

put_in : (path p : List ℕ) (ps : List (List ℕ)) → In path (put_among p ps) → In path (p ∷ ps)
put_in path p [] i = i
put_in path p (q ∷ qs) i = grind (arith, common_steps, put_in path p qs)

once_in : (path : List ℕ) (paths : List (List ℕ)) → In path (each_once paths) → In path paths
once_in path [] i = absurd i
once_in path (p ∷ ps) i = elim (put_in path p (each_once ps) i) [ inl e ↦ inl e | inr j ↦ inr (once_in path ps j) ]

-- ---- what is absent of a directory

-- none of some items leads to a path
abbrev pub NoneLeads : Option (List (List ℕ)) → List ℕ → List Item → List ℕ → Type 0
NoneLeads only d items rest = AllByRecursion (λ item. leads_to (entry_of item) rest ≡ false) items

module _ (only : Option (List (List ℕ))) (d : List ℕ) (items : List Item) where
  -- no path is absent twice
  pub absent_distinct : Distinct (absent_from only d items)
  absent_distinct = grind (arith, common_steps, distinct_filter, rests_distinct, rising_distinct, once_in_order)

  -- each is asked for
  pub absent_asked : AllByRecursion (λ rest. In (path_in d rest) (paths_in only) × (d ≡ [] → rest ≢ [])) (absent_from only d items)
  absent_asked = grind (arith, common_steps, each_filter, each-map, rest_is, once_in, rests_of)

  none_leads : (rest : List ℕ) (es : List Item) → list_any (λ item. leads_to (entry_of item) rest) es ≡ false
      → NoneLeads only d es rest
  none_leads rest [] e = tt
  none_leads rest (item ∷ es) e =
      let t = or_parts (leads_to (entry_of item) rest) (list_any (λ i. leads_to (entry_of i) rest) es) e in
      (t.0, none_leads rest es t.1)

  -- and none of the items leads to it
  pub absent_leads : AllByRecursion (NoneLeads only d items) (absent_from only d items)
  absent_leads = grind (arith, common_steps, each-map, none_leads, not-true, each_passes)
