-- The paths of a list, one after another.
use Rattle.std.proofs.{Common.{◌≡◌, ◌∙◌, ◌++◌, ◌||◌, ℕ, Bool, false, List, [], ◌∷◌, map, ap, ap₂, append_assoc, sym}, lemmas.Bool.or_parts}
use Rattle.std.proofs.lemmas.List.{map-append}
use Rattle.std.specs.{Borrow.Bor, List.list_any}
use Rattle.lc_text.specs.{Lines.input_paths_of, declared.lines.PathEnd.PathEnd}
use Rattle.lc_program.specs.PathLists.{is_bad_listed, listed_path}

-- the paths up to what is left of a list, all of which an entry can have
pub record IsListedTo (end : PathEnd) (list rest : List ℕ) (paths : List (Bor (List ℕ))) : Type 0 where
  pub before : List (List ℕ)
  pub are : input_paths_of end list ≡ before ++ input_paths_of end rest
  pub fine : list_any is_bad_listed (map listed_path before) ≡ false
  pub paths_are : map (λ path. path.now) paths ≡ map listed_path before

list_any_more : (bad : List ℕ → Bool) (xs : List (List ℕ)) (x : List ℕ) → list_any bad xs ≡ false → bad x ≡ false
    → list_any bad (xs ++ x ∷ []) ≡ false
list_any_more bad [] x none fine = ap (λ b. b || false) fine
list_any_more bad (y ∷ ys) x none fine =
    let parts = or_parts (bad y) (list_any bad ys) none in
    ap₂ (λ a b. a || b) parts.0 (list_any_more bad ys x parts.1 fine)

-- one path more
pub listed_next : (end : PathEnd) (list rest line others : List ℕ) (paths : List (Bor (List ℕ))) (path : Bor (List ℕ))
    → IsListedTo end list rest paths → input_paths_of end rest ≡ line ∷ input_paths_of end others → path.now ≡ listed_path line
    → is_bad_listed path.now ≡ false → IsListedTo end list others (paths ++ path ∷ [])
listed_next end list rest line others paths path to next is fine = record {
  before = to.before ++ line ∷ [];
  are = to.are ∙ (ap (λ more. to.before ++ more) next ∙ sym (append_assoc to.before (line ∷ []) (input_paths_of end others)));
  fine = ap (list_any is_bad_listed) (map-append listed_path to.before (line ∷ []))
      ∙ list_any_more is_bad_listed (map listed_path to.before) (listed_path line) to.fine (ap is_bad_listed (sym is) ∙ fine);
  paths_are = map-append (λ (p : Bor (List ℕ)). p.now) paths (path ∷ [])
      ∙ (ap₂ (λ a b. a ++ b ∷ []) to.paths_are is ∙ sym (map-append listed_path to.before (line ∷ [])));
}
