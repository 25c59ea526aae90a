-- Files that are compared are those of both reports.
use Rattle.std.proofs.Common.{◌≡◌, ℕ, Bool, true, false, cond, ◌||◌, List, [], ◌∷◌, Option, Some, None, refl, sym, ◌∙◌, ap, subst, inl, inr}
use Rattle.std.proofs.lemmas.List.Elements.{All-contains, All-contains_itself, All-filter, filter_passes}
use Rattle.std.specs.List.{Contains, filter, list_any}
use Rattle.lc_changes.proofs.Merging.{merged_as}
use Rattle.lc_changes.specs.{FileChanges.{FileChangeModel, AreByPath, AreFilesCompared, IsFileOf, IsOneOf, changed_path}, Merged.of_key}
use Rattle.lc_changes.specs.FileChanges.{file_path, same_path}
use Rattle.lc_level.specs.Level.{FileLineModel}
use Rattle.lc_tree.specs.ByteOrder.{bytes_cmp}
use Rattle.lc_walk.proofs.Elements.{In, contains, is_in}

module _ {X : Type 0} (test : X → Bool) where
  none_at : (xs : List X) → filter test xs ≡ [] → list_any test xs ≡ false
  none_at [] none = refl
  none_at (x ∷ xs) none = at (test x) refl (none_at xs) none
    where
      at : (b : Bool) → test x ≡ b → (filter test xs ≡ [] → list_any test xs ≡ false)
          → cond b (x ∷ filter test xs) (filter test xs) ≡ [] → (test x || list_any test xs) ≡ false
      at true passes rest none = absurd (cc)
      at false fails rest none = ap (λ b. b || list_any test xs) fails ∙ rest none

  none_kept : (xs : List X) → list_any test xs ≡ false → filter test xs ≡ []
  none_kept [] none = refl
  none_kept (x ∷ xs) none = at (test x) refl (none_kept xs) none
    where
      at : (b : Bool) → test x ≡ b → (list_any test xs ≡ false → filter test xs ≡ []) → (b || list_any test xs) ≡ false
          → cond (test x) (x ∷ filter test xs) (filter test xs) ≡ []
      at true passes rest none = absurd (cc)
      at false fails rest none = ap (λ b. cond b (x ∷ filter test xs) (filter test xs)) fails ∙ rest none

  kept : (x : X) (xs : List X) → In x xs → test x ≡ true → In x (filter test xs)
  kept x [] i passes = absurd i
  kept x (y ∷ ys) (inl e) passes =
      subst (λ b. In x (cond b (y ∷ filter test ys) (filter test ys))) (sym (ap test e ∙ passes)) (inl e)
  kept x (y ∷ ys) (inr i) passes =
      elim (test y) as (λ b. In x (cond b (y ∷ filter test ys) (filter test ys)))
      [ true ↦ inr (kept x ys i passes) | false ↦ kept x ys i passes ]

-- a file at a path in the order of paths is one of the report's at this path
file_as : (files sorted : List FileLineModel) (path : List ℕ) (file : Option FileLineModel) → AreByPath files sorted
    → IsOneOf (of_key file_path bytes_cmp path sorted) file → IsOneOf (of_key file_path bytes_cmp path files) file
file_as files sorted path None by none =
    let test : FileLineModel → Bool = λ (f : FileLineModel). same_path path f.path in
    none_kept test files (sym (by.present (same_path path)) ∙ none_at test sorted none)
file_as files sorted path (Some f) by has =
    let test : FileLineModel → Bool = λ (g : FileLineModel). same_path path g.path in
    let within = All-contains (Contains sorted) (filter test sorted) f (All-filter test (Contains sorted) sorted
    (All-contains_itself sorted)) has in
    let passes = All-contains (λ g. test g ≡ true) (filter test sorted) f (filter_passes test sorted) has in
    contains f (filter test files) (kept test f files (is_in f files (by.given f within)) passes)

pub files_compared : (old_files new_files olds news : List FileLineModel) (changes : List FileChangeModel) → AreByPath old_files olds
    → AreByPath new_files news → AreFilesCompared olds news changes → AreFilesCompared old_files new_files changes
files_compared old_files new_files olds news changes old_by new_by =
    merged_as file_path bytes_cmp changed_path IsFileOf olds news old_files new_files changes
    (λ c is. (
      file_as old_files olds (changed_path c) c.old_file old_by is.0,
      file_as new_files news (changed_path c) c.new_file new_by is.1,
    ))
    old_by.present new_by.present
