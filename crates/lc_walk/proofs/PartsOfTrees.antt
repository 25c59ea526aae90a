-- Which entries and directories take part, by their paths.
use Rattle.std.proofs.Common.{arith}
use Rattle.std.proofs.lemmas.Grind.{common_steps}
use Rattle.std.proofs.Common.{◌≡◌, ◌≢◌, ℕ, Bool, true, false, ◌&&◌, ◌||◌, List, [], ◌∷◌, ◌++◌, refl, sym, ◌∙◌, ap, inl, inr, ◌⊎◌, Option}
use Rattle.std.proofs.{Common.{Some, None, append_assoc, bytes_eq}, lemmas.Bool.{and_from, and_parts, or_cases, or_left, or_right}}
use Rattle.std.specs.{List.{Contains, list_any, AllByRecursion}, Option.{is_none, is_some}}
use Rattle.lc_glob.specs.Path.{path_in, is_good_path}
use Rattle.lc_level.specs.Narrowing.{after, stands_below, rest_from, is_whole, leads_to, rests, takes_part}
use Rattle.lc_level.proofs.{AskedPaths.{after_is, after_front, rest_is, passes, any_seen, leads_once}, WellFormed.{IsGoodName, bytes_same}}
use Rattle.lc_level.proofs.WellFormed.{same_bytes}
use Rattle.lc_tree.specs.{Kinds.is_dir, Listing.EntryModel}
use Rattle.lc_walk.specs.PartOfWalk.{IsBelow, IsWithin, EntryTakesPart}
use Rattle.lc_walk.proofs.{Elements.{In, is_in, contains}, PathsWithin.{within_child, child_within, within_some, path_more}}

any_in : (p : List ℕ → Bool) (xs : List (List ℕ)) → list_any p xs ≡ true → (x : List ℕ) × In x xs × (p x ≡ true)
any_in p [] e = cc
any_in p (x ∷ xs) e = at (or_cases (p x) (list_any p xs) e) (λ h. any_in p xs h)
  where
    at : (p x ≡ true) ⊎ (list_any p xs ≡ true) → (list_any p xs ≡ true → (y : List ℕ) × In y xs × (p y ≡ true))
        → (y : List ℕ) × In y (x ∷ xs) × (p y ≡ true)
    at (inl h) more = (x, inl refl, h)
    at (inr h) more = let r = more h in (r.0, inr r.1, r.2)

of_any : (p : List ℕ → Bool) (xs : List (List ℕ)) (x : List ℕ) → In x xs → p x ≡ true → list_any p xs ≡ true
of_any p [] x i e = absurd i
of_any p (y ∷ ys) x (inl same) e = or_left (p y) (list_any p ys) (ap p same ∙ e)
of_any p (y ∷ ys) x (inr i) e = or_right (p y) (list_any p ys) (of_any p ys x i e)

-- ---- paths below others

stands_is : (path other : List ℕ) → stands_below path other ≡ true → IsBelow path other
stands_is path other e = at (after (other ++ 47 ∷ []) path) refl e
  where
    at : (o : Option (List ℕ)) → after (other ++ 47 ∷ []) path ≡ o → is_some o ≡ true → IsBelow path other
    at None is h = cc
    at (Some rest) is h = (rest, after_is (other ++ 47 ∷ []) path rest is ∙ append_assoc other (47 ∷ []) rest)

is_stands : (path other : List ℕ) → IsBelow path other → stands_below path other ≡ true
is_stands path other (rest, e) =
    ap is_some
    (ap (after (other ++ 47 ∷ [])) (e ∙ sym (append_assoc other (47 ∷ []) rest)) ∙ after_front (other ++ 47 ∷ []) rest)

-- a path of a directory is seen from it
rest_of_in : (d rest : List ℕ) → (d ≡ [] → rest ≢ []) → rest_from d (path_in d rest) ≡ Some rest
rest_of_in [] [] some = absurd (some refl refl)
rest_of_in [] (b ∷ bs) some = refl
rest_of_in (b ∷ bs) rest some =
    ap (after (b ∷ bs ++ 47 ∷ [])) (sym (append_assoc (b ∷ bs) (47 ∷ []) rest)) ∙ after_front (b ∷ bs ++ 47 ∷ []) rest

more_some : (n rest : List ℕ) → n ++ 47 ∷ rest ≢ []
more_some [] rest e = absurd (cc e)
more_some (b ∷ bs) rest e = absurd (cc e)

-- ---- entries

module _ (only : List (List ℕ)) (d : List ℕ) (e : EntryModel) where
  leads_seen : list_any (leads_to e) (rests (Some only) d) ≡ list_any (λ path. passes (leads_to e) (rest_from d path)) only
  leads_seen = leads_once (Some only) d e ∙ any_seen (leads_to e) (rest_from d) only

  by_whole : AllByRecursion (λ path. is_good_path path ≡ true) only → is_whole (Some only) d ≡ true
      → IsWithin only (path_in d e.name)
  by_whole good whole =
      let q = any_in (λ path. bytes_eq path d || stands_below d path) only whole in
      let within : IsWithin only d = below q.0 q.1 (or_cases (bytes_eq q.0 d) (stands_below d q.0) q.2) in
      child_within only d e.name (within_some only good d within) within
    where
      below : (q : List ℕ) → In q only → (bytes_eq q d ≡ true) ⊎ (stands_below d q ≡ true) → IsWithin only d
      below q i (inl same) = (q, contains q only i, inl (sym (same_bytes q d same)))
      below q i (inr deep) = (q, contains q only i, inr (stands_is d q deep))

  by_rest : list_any (leads_to e) (rests (Some only) d) ≡ true → EntryTakesPart only e.kind (path_in d e.name)
  by_rest leads =
      let q = any_in (λ path. passes (leads_to e) (rest_from d path)) only (sym leads_seen ∙ leads) in
      from q.0 q.1 (rest_from d q.0) refl q.2
    where
      to : (q rest : List ℕ) → In q only → q ≡ path_in d rest
          → (bytes_eq e.name rest ≡ true) ⊎ ((is_dir e.kind && stands_below rest e.name) ≡ true)
          → EntryTakesPart only e.kind (path_in d e.name)
      to q rest i is (inl same) =
          inl (q, contains q only i, inl (ap (path_in d) (same_bytes e.name rest same) ∙ sym is))
      to q rest i is (inr deep) =
          let t = and_parts (is_dir e.kind) (stands_below rest e.name) deep in
          let below = stands_is rest e.name t.1 in
          inr (t.0, (q, contains q only i, (below.0, is ∙ ap (path_in d) below.1 ∙ path_more d e.name (47 ∷ below.0))))

      from : (q : List ℕ) → In q only → (o : Option (List ℕ)) → rest_from d q ≡ o → passes (leads_to e) o ≡ true
          → EntryTakesPart only e.kind (path_in d e.name)
      from q i None is h = let none : false ≡ true = h in absurd (cc none)
      from q i (Some rest) is h = to q rest i (rest_is d q rest is) (or_cases (bytes_eq e.name rest) _ h)

  -- an entry that takes part is within, or a directory above
  pub by_part : AllByRecursion (λ path. is_good_path path ≡ true) only → takes_part (Some only) d e ≡ true
      → EntryTakesPart only e.kind (path_in d e.name)
  by_part good takes = grind (arith, common_steps, or_cases, by_whole, by_rest)

  led : (q rest : List ℕ) → Contains only q → rest_from d q ≡ Some rest → leads_to e rest ≡ true → takes_part (Some only) d e ≡ true
  led q rest has is leads = grind (arith, common_steps, or_right, leads_seen, of_any, passes, is_in)

  -- and each such entry takes part
  pub of_part : IsGoodName e.name → EntryTakesPart only e.kind (path_in d e.name) → takes_part (Some only) d e ≡ true
  of_part good (inl within) = at (within_child only d e.name good within)
    where
      stands : (q : List ℕ) → (d ≡ q) ⊎ IsBelow d q → (bytes_eq q d || stands_below d q) ≡ true
      stands q (inl same) = or_left (bytes_eq q d) (stands_below d q) (bytes_same q d (sym same))
      stands q (inr below) = or_right (bytes_eq q d) (stands_below d q) (is_stands d q below)

      at : IsWithin only d ⊎ Contains only (path_in d e.name) → takes_part (Some only) d e ≡ true
      at (inl (q, has, above)) =
          or_left (is_whole (Some only) d) _
          (or_right (is_none (Some only)) _
          (of_any (λ path. bytes_eq path d || stands_below d path) only q (is_in q only has) (stands q above)))
      at (inr has) =
          led (path_in d e.name) e.name has (rest_of_in d e.name (λ top. good.0))
          (or_left (bytes_eq e.name e.name) _ (bytes_same e.name e.name refl))
  of_part good (inr (dir, (q, has, (rest, is)))) =
      led q (e.name ++ 47 ∷ rest) has
      (ap (rest_from d) (is ∙ sym (path_more d e.name (47 ∷ rest)))
      ∙ rest_of_in d (e.name ++ 47 ∷ rest) (λ top. more_some e.name rest))
      (or_right (bytes_eq e.name (e.name ++ 47 ∷ rest)) _
      (and_from (is_dir e.kind) _ dir (is_stands (e.name ++ 47 ∷ rest) e.name (rest, refl))))
