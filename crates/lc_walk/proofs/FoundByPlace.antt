-- What a walk finds, by the names that lead to it.
use Rattle.std.proofs.Common.{rules, ◌≡◌, ℕ, zero, suc, ◌<◌, true, List, [], ◌∷◌, length, refl, sym, subst, arith, ◌⊎◌, inl, inr, map}
use Rattle.std.proofs.lemmas.{Grind.common_steps, List.length-map}
use Rattle.std.specs.List.{flat_map}
use Rattle.lc_level.specs.{declared.fault_word.FaultWord.FaultWord, Answers.{Item, directory_item, name_of, Answers, Tree}, Job.JobModel}
use Rattle.lc_level.specs.Level.{Fate, counted, failed, skipped, Level, faulted_level, listed_level, level, walked_in, fates_of, fate_of}
use Rattle.lc_level.specs.{Level.{is_taken, child_job}, Narrowing.{part_of, absent_from}, RuleFiles.extended, Filters.FiltersModel}
use Rattle.lc_glob.specs.Path.{path_in}
use Rattle.lc_walk.specs.Found.{Found, found_file, found_fault, found_directory, found_skipped, found_absent, found_by, found_of}
use Rattle.lc_walk.specs.{Found.{found_at, children_of, children_at}, FoundAt.{IsListed, WalksInto, LeadsTo, HasEntry, Gives, IsFoundIn}}
use Rattle.lc_walk.specs.{FoundAt.FoundLaw, RecursiveWalk.{walks_below, walk_of}}
use Rattle.lc_level.proofs.Fates.{children_by, walked_items_are}
use Rattle.lc_walk.proofs.Elements.{In, is_in, contains, in_skipped, in_right, in_either, in_lists, of_lists, if_cond, cond_if, in_mapped}
use Rattle.lc_walk.proofs.{Elements.of_mapped, Levels.level_cases}

-- ---- one directory

-- the level of a directory that is listed without a fault
listed_is : (filters : FiltersModel) (j : JobModel) (a : Answers) (items : List Item) (inside : JobModel)
    → IsListed j a items inside → level filters j a
    ≡ listed_level (fates_of filters inside (part_of filters.only j.path items)) (absent_from filters.only j.path items)
listed_is filters j a items inside l = grind (arith, common_steps)

module _ (filters : FiltersModel) (j : JobModel) (a : Answers) where
  abbrev pair_of : JobModel → Item → List ℕ × Fate
  pair_of inside item = (name_of item, fate_of filters inside item)

  abbrev taking_part : List Item → List Item
  taking_part items = part_of filters.only j.path items

  -- what an entry's fate gives, the directory gives
  given_by_entry : (items : List Item) (inside : JobModel) → IsListed j a items inside → (item : Item) → In item (taking_part items)
      → (x : Found) → In x (found_by j.path (pair_of inside item)) → Gives filters j a x
  given_by_entry items inside listed item here x has = search (rules, arith, contains)

  -- what is found of a directory it gives
  pub given_by_found : (x : Found) → In x (found_at filters j a) → Gives filters j a x
  given_by_found x i =
      level_cases (λ l. level filters j a ≡ l → In x (found_of j l) → Gives filters j a x) filters j a
      (λ w here e f. faulted j.path w e f) (λ items here fault read e f. faulted fault.path fault.word e f)
      (λ items here b read e f.
      either items (extended j b) (record { here = here; bytes = b; read = read; is = refl })
      (in_either x (map (found_absent j.path) (absent_from filters.only j.path items)) _ f))
      refl i
    where
      faulted : (p : List ℕ) (w : FaultWord) → level filters j a ≡ faulted_level p w → In x (found_fault p w ∷ []) → Gives filters j a x
      faulted p w e (inl is) = subst (Gives filters j a) is (inl e)
      faulted p w e (inr f) = absurd f

      listed : (items : List Item) (inside : JobModel) → IsListed j a items inside
          → In x (found_directory j.path (length (fates_of filters inside (taking_part items)))
          ∷ flat_map (found_by j.path) (fates_of filters inside (taking_part items))) → Gives filters j a x
      listed items inside l (inl is) =
          subst (Gives filters j a) is
          (refl, record { items = items; inside = inside; listed = l; many = length-map (taking_part items) (pair_of inside) })
      listed items inside l (inr f) =
          let r = in_lists (found_by j.path) x (fates_of filters inside (taking_part items)) f in
          let m = in_mapped (pair_of inside) r.0 (taking_part items) r.1 in
          given_by_entry items inside l m.0 m.1 x (subst (λ y. In x (found_by j.path y)) (sym m.2) r.2)

      absent : (items : List Item) (inside : JobModel) → IsListed j a items inside
          → In x (map (found_absent j.path) (absent_from filters.only j.path items)) → Gives filters j a x
      absent items inside l i =
          let m = in_mapped (found_absent j.path) x (absent_from filters.only j.path items) i in
          subst (Gives filters j a) m.2
          (inr (inr (
            m.0,
            refl,
            refl,
            record { items = items; inside = inside; listed = l; absent = contains m.0 (absent_from filters.only j.path items) m.1 },
          )))

      either : (items : List Item) (inside : JobModel) → IsListed j a items inside
          → In x (map (found_absent j.path) (absent_from filters.only j.path items))
          ⊎ In x (found_directory j.path (length (fates_of filters inside (taking_part items)))
          ∷ flat_map (found_by j.path) (fates_of filters inside (taking_part items))) → Gives filters j a x
      either items inside l (inl i) = absent items inside l i
      either items inside l (inr i) = listed items inside l i

  -- what is found of a listed directory beside what is absent
  beside_absent : (items : List Item) (inside : JobModel) → IsListed j a items inside → (x : Found)
      → In x (found_directory j.path (length (fates_of filters inside (taking_part items)))
      ∷ flat_map (found_by j.path) (fates_of filters inside (taking_part items))) → In x (found_at filters j a)
  beside_absent items inside l x i = grind (arith, common_steps, listed_is, in_right)

  -- what the fate of an entry gives is found
  found_by_entry : (n : List ℕ) (fate : Fate) (x : Found) → HasEntry filters j a n fate → In x (found_by j.path (n, fate))
      → In x (found_at filters j a)
  found_by_entry n fate x h i =
      let fates : List (List ℕ × Fate) = fates_of filters h.inside (taking_part h.items) in
      let own : In x (found_by j.path (pair_of h.inside h.item)) = grind (arith, common_steps) in
      let here : In x (flat_map (found_by j.path) fates) =
      of_lists (found_by j.path) x (pair_of h.inside h.item) fates
      (of_mapped (pair_of h.inside) h.item (taking_part h.items) (is_in h.item (taking_part h.items) h.has)) own in
      beside_absent h.items h.inside h.listed x (inr here)

  -- what a directory gives is found of it
  pub found_by_given : (x : Found) → Gives filters j a x → In x (found_at filters j a)
  found_by_given (found_directory path entries) (e, h) =
      let many = length (fates_of filters h.inside (taking_part h.items)) in
      let same : found_directory j.path many ≡ found_directory path entries = grind (arith, common_steps, length-map) in
      beside_absent h.items h.inside h.listed (found_directory path entries) (inl same)
  found_by_given (found_file directory f) (e, h) =
      subst (λ d. In (found_file d f) (found_at filters j a)) (sym e)
      (found_by_entry f.path (counted f) (found_file j.path f) h (inl refl))
  found_by_given (found_fault path word) (inl e) = subst (λ (l : Level). In (found_fault path word) (found_of j l)) (sym e) (inl refl)
  found_by_given (found_fault path word) (inr (inr h)) =
      let absent = absent_from filters.only j.path h.3.items in
      let same : found_absent j.path h.0 ≡ found_fault path word = grind (arith, common_steps) in
      subst (λ (v : Level). In (found_fault path word) (found_of j v)) (sym (listed_is filters j a h.3.items h.3.inside h.3.listed))
      (in_skipped (found_fault path word) (map (found_absent j.path) absent) _
      (subst (λ y. In y (map (found_absent j.path) absent)) same
      (of_mapped (found_absent j.path) h.0 absent (is_in h.0 absent h.3.absent))))
  found_by_given (found_fault path word) (inr (inl h)) =
      subst (λ p. In (found_fault p word) (found_at filters j a)) (sym h.1)
      (found_by_entry h.0 (failed word) (found_fault (path_in j.path h.0) word) h.2 (inl refl))
  found_by_given (found_skipped directory l) (e, h) =
      subst (λ d. In (found_skipped d l) (found_at filters j a)) (sym e)
      (found_by_entry l.path (skipped l.kind l.reason) (found_skipped j.path l) h (inl refl))

-- the child directories
module _ (filters : FiltersModel) (j : JobModel) (a : Answers) where
  by_child_item : (k : JobModel) (c : List ℕ × JobModel) (item : Item) → In c (children_by filters k item)
      → (item ≡ directory_item c.0) × (is_taken filters k c.0 true ≡ true) × (c.1 ≡ child_job k c.0)
  by_child_item k c item i = grind (arith, common_steps, if_cond)

  -- a child directory is left in
  pub child_by_level : (c : List ℕ × JobModel) → In c (children_at filters j a)
      → (inside : JobModel) × WalksInto filters j a c.0 inside × (c.1 ≡ child_job inside c.0)
  child_by_level c =
      level_cases (λ l. In c (children_of l) → (inside : JobModel) × WalksInto filters j a c.0 inside × (c.1 ≡ child_job inside c.0))
      filters j a
      (λ w here i. absurd i) (λ items here fault read i. absurd i)
      (λ items here b read i.
      let part = part_of filters.only j.path items in
      let r = in_lists (children_by filters (extended j b)) c part (subst (In c) (walked_items_are filters (extended j b) part) i) in
      let s = by_child_item (extended j b) c r.0 r.2 in (
        extended j b,
        record {
          items = items;
          listed = record { here = here; bytes = b; read = read; is = refl };
          has = contains _ part (subst (λ (x : Item). In x part) s.0 r.1);
          taken = s.1;
        },
        s.2,
      ))

  -- and the other way round
  pub level_by_child : (name : List ℕ) (inside : JobModel) → WalksInto filters j a name inside
      → In (name, child_job inside name) (children_at filters j a)
  level_by_child name inside l =
      let part = part_of filters.only j.path l.items in
      let i : In (name, child_job inside name) (walked_in (fates_of filters inside part)) =
      subst (In (name, child_job inside name)) (sym (walked_items_are filters inside part))
      (of_lists (children_by filters inside) (name, child_job inside name) (directory_item name) part (is_in _ part l.has)
      (cond_if (is_taken filters inside name true) (name, child_job inside name)
      ((name, child_job inside name) ∷ []) l.taken (inl refl))) in
      subst (λ (v : Level). In (name, child_job inside name) (children_of v)) (sym (listed_is filters j a l.items inside l.listed)) i

-- ---- the walk

module _ (filters : FiltersModel) where
  abbrev Walks : Type 0
  Walks = JobModel → Tree → List Found

  in_below : (walk : Walks) (x : Found) (t : Tree) (cs : List (List ℕ × JobModel))
      → In x (walks_below (found_at filters) (children_at filters) walk t cs) →
      (c : List ℕ × JobModel) × In c cs × In x (walk c.1 (λ place. t (c.0 ∷ place)))
  in_below walk x t [] i = absurd i
  in_below walk x t (c ∷ cs) i = at (λ b. in_below walk x t cs b)
      (in_either x (walk c.1 (λ place. t (c.0 ∷ place))) (walks_below (found_at filters) (children_at filters) walk t cs) i)
    where
      at : (In x (walks_below (found_at filters) (children_at filters) walk t cs)
          → (e : List ℕ × JobModel) × In e cs × In x (walk e.1 (λ place. t (e.0 ∷ place))))
          → In x (walk c.1 (λ place. t (c.0 ∷ place))) ⊎ In x (walks_below (found_at filters) (children_at filters) walk t cs) →
          (d : List ℕ × JobModel) × In d (c ∷ cs) × In x (walk d.1 (λ place. t (d.0 ∷ place)))
      at rest (inl a) = (c, inl refl, a)
      at rest (inr b) = let r = rest b in (r.0, inr r.1, r.2)

  of_below : (walk : Walks) (x : Found) (t : Tree) (c : List ℕ × JobModel) (cs : List (List ℕ × JobModel)) → In c cs
      → In x (walk c.1 (λ place. t (c.0 ∷ place))) →
      In x (walks_below (found_at filters) (children_at filters) walk t cs)
  of_below walk x t c [] i h = absurd i
  of_below walk x t c (e ∷ cs) (inl s) h = grind (arith, common_steps, in_skipped, in_right)
  of_below walk x t c (e ∷ cs) (inr i) h = grind (arith, common_steps, in_skipped, in_right, of_below walk x t c cs i h)

  deeper : (depth : ℕ) (j : JobModel) (t : Tree) (x : Found) (c : List ℕ × JobModel) (inside : JobModel)
      → WalksInto filters j (t []) c.0 inside → c.1 ≡ child_job inside c.0 →
      IsFoundIn filters depth c.1 (λ place. t (c.0 ∷ place)) x → IsFoundIn filters (suc depth) j t x
  deeper depth j t x c inside l e r = grind (arith, common_steps)

  by_here : (depth : ℕ) (j : JobModel) (t : Tree) (x : Found) → In x (found_at filters j (t []))
      → IsFoundIn filters (suc depth) j t x
  by_here depth j t x a = grind (arith, common_steps, given_by_found)

  by_either : (depth : ℕ) (j : JobModel) (t : Tree) (x : Found)
      → ((k : JobModel) (u : Tree) → In x (walk_of filters depth k u) → IsFoundIn filters depth k u x) →
      In x (found_at filters j (t []))
      ⊎ In x (walks_below (found_at filters) (children_at filters) (walk_of filters depth) t
      (children_at filters j (t []))) → IsFoundIn filters (suc depth) j t x
  by_either depth j t x known has = search (rules, arith, by_here, in_below, child_by_level, deeper)

  -- what the walk finds a directory gives that names lead to
  pub place_by_walk : (depth : ℕ) (j : JobModel) (t : Tree) (x : Found)
      → In x (walk_of filters depth j t) → IsFoundIn filters depth j t x
  place_by_walk zero j t x i = absurd i
  place_by_walk (suc depth) j t x i =
      by_either depth j t x (λ k u h. place_by_walk depth k u x h)
      (in_either x (found_at filters j (t []))
      (walks_below (found_at filters) (children_at filters) (walk_of filters depth) t (children_at filters j (t []))) i)

  walk_at : (depth : ℕ) (place : List (List ℕ)) → length place < depth → (j k : JobModel) (t : Tree) (x : Found)
      → LeadsTo filters j t place k → Gives filters k (t place) x → In x (walk_of filters depth j t)
  walk_at zero place lt j k t x leads g = absurd (omega (arith, lt))
  walk_at (suc depth) [] lt j k t x leads g =
      in_skipped x (found_at filters j (t []))
      (walks_below (found_at filters) (children_at filters) (walk_of filters depth) t (children_at filters j (t [])))
      (found_by_given filters j (t []) x (subst (λ (l : JobModel). Gives filters l (t []) x) (sym leads) g))
  walk_at (suc depth) (name ∷ place) lt j k t x leads g =
      let short : length place < depth = omega (arith, lt) in
      in_right x (found_at filters j (t []))
      (walks_below (found_at filters) (children_at filters) (walk_of filters depth) t (children_at filters j (t [])))
      (of_below (walk_of filters depth) x t (name, child_job leads.0 name) (children_at filters j (t []))
      (level_by_child filters j (t []) name leads.0 leads.1)
      (walk_at depth place short (child_job leads.0 name) k (λ p. t (name ∷ p)) x leads.2 g))

  -- what such a directory gives is found
  pub walk_by_place : (depth : ℕ) (j : JobModel) (t : Tree) (x : Found) → IsFoundIn filters depth j t x
      → In x (walk_of filters depth j t)
  walk_by_place depth j t x c = walk_at depth c.place c.shallow j c.job t x c.leads c.gives

-- what a walk finds, by the names that lead to it
pub found_law : FoundLaw
found_law = grind (arith, common_steps, place_by_walk, is_in, contains, walk_by_place)
