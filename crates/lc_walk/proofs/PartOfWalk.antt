-- What a walk of some paths finds is the part of the whole walk at, below and above them.
use Rattle.std.proofs.Common.{rules}
use Rattle.std.proofs.Common.{arith}
use Rattle.std.proofs.lemmas.Grind.{common_steps}
use Rattle.std.proofs.Common.{◌≡◌, ◌≢◌, ℕ, true, List, [], ◌∷◌, length, refl, sym, ◌∙◌, ap, subst, inl, inr, ◌⊎◌, Some, None, Ok}
use Rattle.std.specs.List.{Contains, AllByRecursion}
use Rattle.lc_glob.specs.Path.{path_in, is_good_path}
use Rattle.lc_level.specs.{Answers.{Item, directory_item, entry_of, Answers, Tree, name_of}, Job.JobModel, Level.FileLineModel}
use Rattle.lc_level.specs.{Level.{SkippedLineModel, Fate, counted, failed, skipped, fate_of, child_job}, Narrowing.{part_of, takes_part}}
use Rattle.lc_level.specs.{Filters.{FiltersModel, narrowed}, WellFormed.IsWellFormed, declared.fault_word.FaultWord.FaultWord}
use Rattle.lc_level.specs.declared.fault_word.FaultWord.TheVariants.{Absent}
use Rattle.lc_level.proofs.{AskedPaths.all_take_part, WellFormed.IsGoodName}
use Rattle.lc_tree.specs.declared.entry.Kind.{Kind, TheVariants.{File, Dir}}
use Rattle.lc_walk.specs.{Found.{Found, found_file, found_fault, found_directory, found_skipped}, FoundAt.{IsListed, WalksInto, LeadsTo}}
use Rattle.lc_walk.specs.{FoundAt.{HasEntry, Gives, IsFoundIn}, GivenAnswers.HasListings, PartOfWalk.{IsWithin, EntryTakesPart, IsOnWay}}
use Rattle.lc_walk.specs.PartOfWalk.{IsFaultOnWay, ListsPath, IsPartOfWalk, PartOfWalkLaw, TwoWalksLaw, whole_walk, part_walk}
use Rattle.lc_walk.proofs.{AbsentPaths.absent_asked, Elements.{In, is_in, contains}, FoundByPlace.found_law, Levels.IsOwnPlace}
use Rattle.lc_walk.proofs.{Levels.well_formed_items, PartFates.{IsFateOf, fits, same_fate, same_fault, fault_at, spread_good}}
use Rattle.lc_walk.proofs.{PartsOfTrees.{by_part, of_part}, PathsWithin.{IsAtOrBelow, name_below, name_some, path_some, below_at}}
use Rattle.lc_walk.proofs.{PathsWithin.{on_way_of_child, on_way_up, within_file, directory_takes, takes_on_way}, SameWalks.same_walk}
use Rattle.lc_walk.proofs.TakingPart.{in_filter, of_filter}

inside_path : (j inside : JobModel) (a : Answers) (items : List Item) → IsListed j a items inside → inside.path ≡ j.path
inside_path j inside a items l = ap (λ (k : JobModel). k.path) l.is

module _ (s : FiltersModel) (only : List (List ℕ)) where
  abbrev part : FiltersModel
  part = narrowed s (Some only)

  abbrev whole : FiltersModel
  whole = narrowed s None

  -- ---- the entries of a directory

  in_whole : (d : List ℕ) (items : List Item) (item : Item) → Contains (part_of None d items) item → In item items
  in_whole d items item c = subst (λ l. In item l) (all_take_part d items) (is_in item (part_of None d items) c)

  of_whole : (d : List ℕ) (items : List Item) (item : Item) → In item items → Contains (part_of None d items) item
  of_whole d items item i = contains item (part_of None d items) (subst (λ l. In item l) (sym (all_take_part d items)) i)

  in_part : (d : List ℕ) (items : List Item) (item : Item) → Contains (part_of (Some only) d items) item
      → In item items × (takes_part (Some only) d (entry_of item) ≡ true)
  in_part d items item c = in_filter (λ i. takes_part (Some only) d (entry_of i)) item items (is_in item (part_of (Some only) d items) c)

  item_good : (j : JobModel) (a : Answers) (items : List Item) (item : Item) → IsWellFormed a → a.here ≡ Ok items
      → Contains (part_of None j.path items) item → IsGoodName (name_of item)
  item_good j a items item well_formed here c =
      spread_good item items (well_formed_items a well_formed items here) (in_whole j.path items item c)

  -- an entry of the directory is one of those that take part, if the paths select it
  item_takes : (j : JobModel) (a : Answers) (items : List Item) (item : Item) → IsWellFormed a → a.here ≡ Ok items
      → Contains (part_of None j.path items) item → EntryTakesPart only (entry_of item).kind (path_in j.path (name_of item))
      → Contains (part_of (Some only) j.path items) item
  item_takes j a items item well_formed here c takes = search (rules, arith, contains, of_filter, in_whole, of_part, item_good)

  entry_good : (j : JobModel) (a : Answers) (n : List ℕ) (fate : Fate) → IsWellFormed a → HasEntry whole j a n fate → IsGoodName n
  entry_good j a n fate well_formed h = subst IsGoodName h.named (item_good j a h.items h.item well_formed h.listed.here h.has)

  part_entry : (j : JobModel) (a : Answers) (n : List ℕ) (fate : Fate) → IsWellFormed a → HasEntry whole j a n fate
      → ((kind : Kind) → IsFateOf fate kind → EntryTakesPart only kind (path_in j.path n)) → HasEntry part j a n fate
  part_entry j a n fate well_formed h takes = record {
    items = h.items;
    inside = h.inside;
    listed = h.listed;
    item = h.item;
    has = item_takes j a h.items h.item well_formed h.listed.here h.has
        (subst (λ m. EntryTakesPart only (entry_of h.item).kind (path_in j.path m)) (sym h.named)
        (takes (entry_of h.item).kind (subst (λ f. IsFateOf f (entry_of h.item).kind) h.fate_is (fits whole h.inside h.item))));
    named = h.named;
    fate_is = same_fate s (Some only) None h.inside h.item ∙ h.fate_is;
  }

  leaves_part : (j : JobModel) (a : Answers) (n : List ℕ) (inside : JobModel) → IsWellFormed a → WalksInto whole j a n inside
      → EntryTakesPart only Dir (path_in j.path n) → WalksInto part j a n inside
  leaves_part j a n inside well_formed l takes = search (rules, arith, item_takes)

  -- ---- the directories on the way

  -- the directory that names lead to stands at or below the first
  reach : (place : List (List ℕ)) (j k : JobModel) (t : Tree) → LeadsTo whole j t place k → j.path ≢ [] → IsAtOrBelow k.path j.path
  reach [] j k t e some = inl (ap (λ (x : JobModel). x.path) (sym e))
  reach (n ∷ place) j k t (inside, l, more) some =
      let same : inside.path ≡ j.path = inside_path j inside (t []) l.items l.listed in
      let there : inside.path ≢ [] = λ e. some (sym same ∙ e) in
      subst (IsAtOrBelow k.path) same
      (inr (below_at k.path (path_in inside.path n) inside.path
      (reach place (child_job inside n) k (λ p. t (n ∷ p)) more (path_some inside.path n there)) (name_below inside.path n there)))

  leads_part : (place : List (List ℕ)) (j k : JobModel) (t : Tree) → HasListings whole j t → LeadsTo whole j t place k
      → IsOnWay only k.path → LeadsTo part j t place k
  leads_part [] j k t well_formed e on = e
  leads_part (n ∷ place) j k t well_formed (inside, l, more) on =
      let same : inside.path ≡ j.path = inside_path j inside (t []) l.items l.listed in
      let good = item_good j (t []) l.items (directory_item n) (well_formed [] j refl) l.listed.here l.has in
      let there : path_in inside.path n ≢ [] = name_some inside.path n good in
      let takes : EntryTakesPart only Dir (path_in inside.path n) =
      directory_takes only (path_in inside.path n)
      (on_way_up only k.path (path_in inside.path n) there (reach place (child_job inside n) k (λ p. t (n ∷ p)) more there) on) in (
        inside,
        leaves_part j (t []) n inside (well_formed [] j refl) l (subst (λ p. EntryTakesPart only Dir (path_in p n)) same takes),
        leads_part place (child_job inside n) k (λ p. t (n ∷ p)) (λ p i leads. well_formed (n ∷ p) i (inside, l, leads)) more on,
      )

  module _ (good : AllByRecursion (λ path. is_good_path path ≡ true) only) where
    whole_entry : (j : JobModel) (a : Answers) (n : List ℕ) (fate : Fate) → HasEntry part j a n fate
        → HasEntry whole j a n fate × (kind : Kind) × IsFateOf fate kind × EntryTakesPart only kind (path_in j.path n)
    whole_entry j a n fate h =
        let i = in_part j.path h.items h.item h.has in
        let is : fate_of whole h.inside h.item ≡ fate = same_fate s None (Some only) h.inside h.item ∙ h.fate_is in (
          record {
            items = h.items;
            inside = h.inside;
            listed = h.listed;
            item = h.item;
            has = of_whole j.path h.items h.item i.0;
            named = h.named;
            fate_is = is;
          },
          (entry_of h.item).kind,
          subst (λ f. IsFateOf f (entry_of h.item).kind) is (fits whole h.inside h.item),
          subst (λ m. EntryTakesPart only (entry_of h.item).kind (path_in j.path m)) h.named
              (by_part only j.path (entry_of h.item) good i.1),
        )

    leads_whole : (place : List (List ℕ)) (j k : JobModel) (t : Tree) → LeadsTo part j t place k → IsOnWay only j.path
        → LeadsTo whole j t place k × IsOnWay only k.path
    leads_whole [] j k t e on = (e, subst (λ (x : JobModel). IsOnWay only x.path) e on)
    leads_whole (n ∷ place) j k t (inside, l, more) on =
        let same : inside.path ≡ j.path = inside_path j inside (t []) l.items l.listed in
        let i = in_part j.path l.items (directory_item n) l.has in
        let takes : EntryTakesPart only Dir (path_in j.path n) = by_part only j.path (entry_of (directory_item n)) good i.1 in
        let child : IsOnWay only (path_in inside.path n) = grind (arith, common_steps, takes_on_way) in
        let rest = leads_whole place (child_job inside n) k (λ p. t (n ∷ p)) more child in (
          (
            inside,
            record {
              items = l.items;
              listed = l.listed;
              has = of_whole j.path l.items (directory_item n) i.0;
              taken = l.taken;
            },
            rest.0,
          ),
          rest.1,
        )

    -- ---- the walk

    module _ (depth : ℕ) (top : JobModel) (t : Tree) (at_top : top.path ≡ []) (well_formed : HasListings whole top t) where
      -- what a directory on the way gives is in the walk of the whole tree
      in_whole_walk : (x : Found) {y : Found} (r : IsFoundIn part depth top t y) → Gives whole r.job (t r.place) x
          → Contains (whole_walk s only depth top t) x
      in_whole_walk x r gives =
          let l = leads_whole r.place top r.job t r.leads (inl at_top) in
          (found_law whole depth top t x).1 (record { place = r.place; shallow = r.shallow; job = r.job; leads = l.0; gives = gives })

      on_way : {y : Found} (r : IsFoundIn part depth top t y) → IsOnWay only r.job.path
      on_way r = (leads_whole r.place top r.job t r.leads (inl at_top)).1

      -- and in that of the part
      in_part_walk : (x : Found) {y : Found} (r : IsFoundIn whole depth top t y) → IsOnWay only r.job.path
          → Gives part r.job (t r.place) x → Contains (part_walk s only depth top t) x
      in_part_walk x r on gives =
          let l = leads_part r.place top r.job t well_formed r.leads on in
          (found_law part depth top t x).1 (record { place = r.place; shallow = r.shallow; job = r.job; leads = l; gives = gives })

      -- so is an entry that the paths select
      by_entry : (x : Found) (r : IsFoundIn whole depth top t x) (n : List ℕ) (fate : Fate) (kind : Kind)
          → HasEntry whole r.job (t r.place) n fate → EntryTakesPart only kind (path_in r.job.path n)
          → ((k : Kind) → IsFateOf fate k → EntryTakesPart only k (path_in r.job.path n))
          → (HasEntry part r.job (t r.place) n fate → Gives part r.job (t r.place) x) → Contains (part_walk s only depth top t) x
      by_entry x r n fate kind h here takes gives =
          let good = well_formed r.place r.job r.leads in
          in_part_walk x r (on_way_of_child only r.job.path n kind (entry_good r.job (t r.place) n fate good h) here)
          (gives (part_entry r.job (t r.place) n fate good h takes))

      file : (directory : List ℕ) (f : FileLineModel) → IsFoundIn part depth top t (found_file directory f) →
          Contains (whole_walk s only depth top t) (found_file directory f) × IsWithin only (path_in directory f.path)
      file directory f r =
          let w = whole_entry r.job (t r.place) f.path (counted f) r.gives.1 in (
            in_whole_walk _ r (r.gives.0, w.0),
            within_file only w.1 (path_in directory f.path) w.2
                (subst (λ d. EntryTakesPart only w.1 (path_in d f.path)) (sym r.gives.0) w.3),
          )

      has_file : (directory : List ℕ) (f : FileLineModel) → IsFoundIn whole depth top t (found_file directory f) →
          IsWithin only (path_in directory f.path) → Contains (part_walk s only depth top t) (found_file directory f)
      has_file directory f r within =
          let here : IsWithin only (path_in r.job.path f.path) = subst (λ d. IsWithin only (path_in d f.path)) r.gives.0 within in
          by_entry _ r f.path (counted f) File r.gives.1 (inl here) (λ kind is. inl here) (λ h. (r.gives.0, h))

      left_out : (directory : List ℕ) (l : SkippedLineModel) → IsFoundIn part depth top t (found_skipped directory l) →
          Contains (whole_walk s only depth top t) (found_skipped directory l) × EntryTakesPart only l.kind (path_in directory l.path)
      left_out directory l r =
          let w = whole_entry r.job (t r.place) l.path (skipped l.kind l.reason) r.gives.1 in (
            in_whole_walk _ r (r.gives.0, w.0),
            subst (λ d. EntryTakesPart only l.kind (path_in d l.path)) (sym r.gives.0)
                (subst (λ k. EntryTakesPart only k (path_in r.job.path l.path)) w.2 w.3),
          )

      has_left_out : (directory : List ℕ) (l : SkippedLineModel) → IsFoundIn whole depth top t (found_skipped directory l) →
          EntryTakesPart only l.kind (path_in directory l.path) → Contains (part_walk s only depth top t) (found_skipped directory l)
      has_left_out directory l r takes =
          let here : EntryTakesPart only l.kind (path_in r.job.path l.path) = grind (arith, common_steps) in
          by_entry _ r l.path (skipped l.kind l.reason) l.kind r.gives.1 here
          (λ kind is. subst (λ k. EntryTakesPart only k (path_in r.job.path l.path)) (sym is) here) (λ h. (r.gives.0, h))

      directory : (path : List ℕ) (entries : ℕ) → IsFoundIn part depth top t (found_directory path entries) →
          ListsPath (whole_walk s only depth top t) path × IsOnWay only path
      directory path entries r =
          let h = r.gives.1 in (
            (
              length (part_of None r.job.path h.items),
              in_whole_walk _ r (r.gives.0, record { items = h.items; inside = h.inside; listed = h.listed; many = refl }),
            ),
            subst (IsOnWay only) (sym r.gives.0) (on_way r),
          )

      has_directory : (path : List ℕ) (entries : ℕ) → IsFoundIn whole depth top t (found_directory path entries) → IsOnWay only path →
          ListsPath (part_walk s only depth top t) path
      has_directory path entries r on =
          let h = r.gives.1 in (
            length (part_of (Some only) r.job.path h.items),
            in_part_walk _ r (subst (IsOnWay only) r.gives.0 on)
                (r.gives.0, record { items = h.items; inside = h.inside; listed = h.listed; many = refl }),
          )

      abbrev Faults : List ℕ → FaultWord → Type 0
      Faults path word = IsWithin only path ⊎ IsFaultOnWay s only depth top t path word

      fault : (path : List ℕ) (word : FaultWord) (r : IsFoundIn part depth top t (found_fault path word)) →
          Gives part r.job (t r.place) (found_fault path word) →
          (Contains (whole_walk s only depth top t) (found_fault path word) × Faults path word) ⊎ ((word ≡ Absent) × Contains only path)
      fault path word r (inl e) =
          let l = leads_whole r.place top r.job t r.leads (inl at_top) in
          let is = same_fault s (Some only) None r.job (t r.place) path word e in
          inl (
            in_whole_walk _ r (inl is),
            inr (record { place = r.place; shallow = r.shallow; job = r.job; leads = l.0; on_way = l.1; fault = is }),
          )
      fault path word r (inr (inl (n, e, h))) =
          let w = whole_entry r.job (t r.place) n (failed word) h in
          inl (
            in_whole_walk _ r (inr (inl (n, e, w.0))),
            inl (within_file only w.1 path w.2 (subst (EntryTakesPart only w.1) (sym e) w.3)),
          )
      fault path word r (inr (inr (rest, e, is, h))) =
          inr (
            is,
            contains path only
                (subst (λ p. In p only) (sym e) (asked _ (absent_asked (Some only) r.job.path h.items) (is_in rest _ h.absent))),
          )
        where
          asked : (rs : List (List ℕ)) → AllByRecursion (λ x. In (path_in r.job.path x) only × (r.job.path ≡ [] → x ≢ [])) rs
              → In rest rs → In (path_in r.job.path rest) only
          asked [] a i = absurd i
          asked (x ∷ xs) a (inl same) = subst (λ y. In (path_in r.job.path y) only) same a.0.0
          asked (x ∷ xs) a (inr i) = asked xs a.1 i

      place_on_way : (d path : List ℕ) → IsOwnPlace d path → IsWithin only path → IsOnWay only d
      place_on_way d path (inl e) within = inr (inl (subst (IsWithin only) e within))
      place_on_way d path (inr (inl (n, name, e))) within = on_way_of_child only d n File name (inl (subst (IsWithin only) e within))
      place_on_way d path (inr (inr e)) within = inl e

      has_fault : (path : List ℕ) (word : FaultWord) (r : IsFoundIn whole depth top t (found_fault path word)) →
          Gives whole r.job (t r.place) (found_fault path word) → Faults path word →
          Contains (part_walk s only depth top t) (found_fault path word)
      has_fault path word r g (inr f) =
          (found_law part depth top t (found_fault path word)).1 (record {
            place = f.place;
            shallow = f.shallow;
            job = f.job;
            leads = leads_part f.place top f.job t well_formed f.leads f.on_way;
            gives = inl (same_fault s None (Some only) f.job (t f.place) path word f.fault);
          })
      has_fault path word r (inl e) (inl within) =
          in_part_walk _ r (place_on_way r.job.path path (fault_at whole r.job (t r.place) path word e) within)
          (inl (same_fault s None (Some only) r.job (t r.place) path word e))
      has_fault path word r (inr (inl (n, e, h))) (inl within) =
          let here : IsWithin only (path_in r.job.path n) = subst (IsWithin only) e within in
          by_entry _ r n (failed word) File h (inl here) (λ kind is. inl here) (λ g. inr (inl (n, e, g)))
      has_fault path word r (inr (inr (rest, e, is, h))) (inl within) = absurd (is_in rest [] h.absent)

      found_in_part : (x : Found) → Contains (part_walk s only depth top t) x → IsFoundIn part depth top t x
      found_in_part x c = (found_law part depth top t x).0 c

      found_in_whole : (x : Found) → Contains (whole_walk s only depth top t) x → IsFoundIn whole depth top t x
      found_in_whole x c = (found_law whole depth top t x).0 c

      -- so a walk of some paths finds of the whole
      of_one_tree : IsPartOfWalk s only depth top t (part_walk s only depth top t)
      of_one_tree = record {
        file = λ d f c. file d f (found_in_part _ c);
        has_file = λ d f c. has_file d f (found_in_whole _ c);
        skipped = λ d l c. left_out d l (found_in_part _ c);
        has_skipped = λ d l c. has_left_out d l (found_in_whole _ c);
        directory = λ p c. directory p c.0 (found_in_part _ c.1);
        has_directory = λ p c. has_directory p c.0 (found_in_whole _ c.1);
        fault = λ p w c. (let r = found_in_part (found_fault p w) c in fault p w r r.gives);
        has_fault = λ p w c. (let r = found_in_whole (found_fault p w) c in has_fault p w r r.gives);
      }

-- where each tree has listings
pub part_law : PartOfWalkLaw
part_law = grind (arith, common_steps, of_one_tree)

-- and of two walks whose directories answer alike
pub two_walks_law : TwoWalksLaw
two_walks_law s only good depth top t u at_top well_formed alike =
    subst (IsPartOfWalk s only depth top t) (sym (same_walk s only depth top t u alike))
    (of_one_tree s only good depth top t at_top well_formed)
