-- The segments of a path that is joined of a directory's path and what is left below it.
use Rattle.std.proofs.Common.{◌≡◌, ℕ, ◌+◌, ◌-◌, true, false, nat_lt, Option, Some, Bor, MatchOption, List, [], ◌∷◌, ◌++◌, length, take}
use Rattle.std.proofs.{Common.{refl, sym, ◌∙◌, ap, subst, arith, append_assoc, length-append}, lemmas.Bool.{and_parts, not-false, or_parts}}
use Rattle.std.proofs.{lemmas.List.{append_cancel_right, Folds.list_all-append}, Math.Seq.take-append_seam}
use Rattle.std.specs.{Prelude.not, List.list_all}
use Rattle.lc_glob.specs.{Bytes.slash, Pieces.{pieces_of, pieces_left}, Path.{path_in, segments_of, is_good_name, is_good_path, max_path}}
use Rattle.lc_glob.proofs.Naming.{segments_apart}
use Rattle.lc_paths.specs.Explanations.DirStacks.{IsCutAt}
use Rattle.lc_text.specs.PathLines.{is_bad_path}
use Rattle.lc_tree.specs.Paths.{names_of_path}

-- the segments of a path are the names of its directory and what is left
pub names_below : (d rest : List ℕ) → segments_of (path_in d rest) ≡ names_of_path d ++ segments_of rest
names_below [] rest = refl
names_below (b ∷ bs) rest = segments_apart (b ∷ bs) rest

-- a good path has no empty segment
good_at : (before : List (List ℕ)) (name : List ℕ) (after : List (List ℕ)) → list_all is_good_name (before ++ name ∷ after) ≡ true
    → is_good_name name ≡ true
good_at before name after good =
    (and_parts (is_good_name name) (list_all is_good_name after)
    (and_parts (list_all is_good_name before) (list_all is_good_name (name ∷ after))
    (sym (list_all-append is_good_name before (name ∷ after)) ∙ good)).1).0

-- ---- a name below a directory, and what is left behind it

-- what cutting it answers, where there is a slash
pub cut_at : (rest name : List ℕ) (after : Option (Bor (List ℕ))) (others : Bor (List ℕ)) → after ≡ Some others
    → pieces_of slash rest ≡ name ∷ pieces_left slash after
    → MatchOption after (rest ≡ name) (λ x. rest ≡ name ++ slash ∷ x.now) → IsCutAt rest name others.now
cut_at rest name after others is pieces whole = record {
  whole = subst (λ (o : Option (Bor (List ℕ))). MatchOption o (rest ≡ name) (λ x. rest ≡ name ++ slash ∷ x.now)) is whole;
  cut = pieces ∙ ap (λ (o : Option (Bor (List ℕ))). name ∷ pieces_left slash o) is;
}

-- a path that is not bad is good
pub good_path : (path : List ℕ) → is_bad_path path ≡ false → is_good_path path ≡ true
good_path path good =
    not-false (is_good_path path) (or_parts (nat_lt max_path (length path)) (not (is_good_path path)) good).1

module _ (d rest name others : List ℕ) (at : IsCutAt rest name others) where
  no_slash : segments_of name ≡ name ∷ []
  no_slash =
      append_cancel_right (segments_of name) (name ∷ []) (segments_of others)
      (sym (segments_apart name others) ∙ ap segments_of (sym at.whole) ∙ at.cut)

  -- with anything else behind it
  pub name_first : (left : List ℕ) → segments_of (name ++ slash ∷ left) ≡ name ∷ segments_of left
  name_first left = segments_apart name left ∙ ap (λ (l : List (List ℕ)). l ++ segments_of left) no_slash

  -- the name is not empty, where the path is good
  pub some_name : is_good_path (path_in d rest) ≡ true → name ≡ [] → ⊥
  some_name good none =
      let here = good_at (names_of_path d) name (segments_of others)
      (sym (ap (list_all is_good_name) (names_below d rest ∙ ap (λ l. names_of_path d ++ l) at.cut)) ∙ good) in
      let bad : is_good_name [] ≡ true = subst (λ (n : List ℕ). is_good_name n ≡ true) none here in cc bad

-- a path below a directory's directory
pub below_child : (d name left : List ℕ) → (name ≡ [] → ⊥) → path_in d (name ++ slash ∷ left) ≡ path_in (path_in d name) left
below_child [] [] left some = absurd (some refl)
below_child [] (n ∷ ns) left some = refl
below_child (b ∷ bs) name left some = sym (append_assoc (b ∷ bs) (slash ∷ name) (slash ∷ left))

-- a name and what follows its slash are joined to a directory as the name is
pub joined_end : (d name left : List ℕ) → path_in d (name ++ slash ∷ left) ≡ path_in d name ++ slash ∷ left
joined_end [] name left = refl
joined_end (b ∷ bs) name left = sym (append_assoc (b ∷ bs) (slash ∷ name) (slash ∷ left))

-- what is left of a path below a name on it
pub stands_below : (path d rest name others : List ℕ) → path ≡ path_in d rest → IsCutAt rest name others → is_bad_path path ≡ false
    → path ≡ path_in (path_in d name) others
stands_below path d rest name others is at good =
    is ∙ ap (path_in d) at.whole
    ∙ below_child d name others (some_name d rest name others at (sym (ap is_good_path is) ∙ good_path path good))

-- a path is longer than what is left below a name on it
pub longer : (path d rest name others : List ℕ) → path ≡ path_in d rest → IsCutAt rest name others
    → length path ≡ length (path_in d name) + (length others + 1)
longer path d rest name others is cut =
    let same : path ≡ path_in d name ++ slash ∷ others = is ∙ ap (path_in d) cut.whole ∙ joined_end d name others in
    omega (arith, ap length same, length-append (path_in d name) (slash ∷ others))

-- the path without what follows a name is the path of the name
pub path_of_name : (path d rest name others : List ℕ) → path ≡ path_in d rest → IsCutAt rest name others
    → take (length path - length others - 1) path ≡ path_in d name
path_of_name path d rest name others is cut =
    let same : path ≡ path_in d name ++ slash ∷ others = is ∙ ap (path_in d) cut.whole ∙ joined_end d name others in
    let long = longer path d rest name others is cut in
    let at : length path - length others - 1 ≡ length (path_in d name) = omega (arith, long) in
    ap (λ n. take n path) at ∙ ap (take (length (path_in d name))) same ∙ take-append_seam (path_in d name) (slash ∷ others)
