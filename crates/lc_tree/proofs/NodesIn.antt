-- The node under a name of a directory.
use Rattle.std.proofs.Common.{◌≡◌, ◌≢◌, ℕ, ◌==◌, Bool, true, false, not, ◌&&◌, cond, List, [], ◌∷◌, ◌++◌, map, Option, Some, None, refl}
use Rattle.std.proofs.{Common.{sym, ◌∙◌, ap, bytes_eq}, lemmas.{Bool.or_parts, List.Splits.slice_split-cons_no, Map.Text.is_eq-slice_cmp}}
use Rattle.std.proofs.lemmas.Slice.Eq.{bytes_eq-Decides}
use Rattle.std.specs.{Prelude.{find, option_map, option_and_then}, List.{AllByRecursion, IsDistinct, list_any, onto_first}}
use Rattle.std.specs.Ordering.{eq_by_cmp}
use Rattle.lc_glob.specs.Path.{is_good_name, is_no_name, path_in, segments_of}
use Rattle.lc_glob.proofs.Naming.{segments_apart}
use Rattle.lc_tree.specs.{ByteOrder.bytes_cmp, Listing.{names, HaveDistinctNames}, Nodes.{Child, entry_of_child, child_among, child_of}}
use Rattle.lc_tree.specs.{Nodes.{node_below, node_at}, Paths.names_of_path, declared.node.Node.Node}

-- ---- the names of the path of a name in a directory

one_segment : (name : List ℕ) → list_any (λ b. b == 47) name ≡ false → segments_of name ≡ name ∷ []
one_segment [] e = refl
one_segment (b ∷ bs) e =
    let t = or_parts (b == 47) (list_any (λ c. c == 47) bs) e in
    slice_split-cons_no (λ c. c == 47) b bs t.0 ∙ ap (onto_first b) (one_segment bs t.1)

last_segment : (path name : List ℕ) → list_any (λ b. b == 47) name ≡ false → segments_of (path ++ 47 ∷ name) ≡ segments_of path ++ name ∷ []
last_segment path name e = segments_apart path name ∙ ap (λ l. segments_of path ++ l) (one_segment name e)

no_slash : (name some_nul : Bool) (any : Bool) → (not name && not any && not some_nul) ≡ true → any ≡ false
no_slash true nul any e = cc
no_slash false nul true e = cc
no_slash false nul false e = refl

-- a name in a directory is one more of its path's names
pub names_below : (path name : List ℕ) → name ≢ [] → list_any (λ b. b == 47) name ≡ false
    → names_of_path (path_in path name) ≡ names_of_path path ++ name ∷ []
names_below [] [] some none = absurd (some refl)
names_below [] (b ∷ bs) some none = one_segment (b ∷ bs) none
names_below (c ∷ cs) name some none = last_segment (c ∷ cs) name none

-- a good name is
pub names_in : (path name : List ℕ) → is_good_name name ≡ true → names_of_path (path_in path name) ≡ names_of_path path ++ name ∷ []
names_in path [] good = cc
names_in path (b ∷ bs) good =
    names_below path (b ∷ bs) (λ e. cc) (no_slash (is_no_name (b ∷ bs)) (list_any (λ c. c == 0) (b ∷ bs))
    (list_any (λ c. c == 47) (b ∷ bs)) good)

-- ---- the node there

below_last : (ns : List (List ℕ)) (name : List ℕ) (top : Node)
    → node_below (ns ++ name ∷ []) top ≡ option_and_then (child_of name) (node_below ns top)
below_last [] name top = same (child_of name top)
  where
    same : (o : Option Node) → option_and_then (λ (child : Node). Some child) o ≡ o
    same None = refl
    same (Some node) = refl
below_last (n ∷ ns) name top = at (child_of n top) (below_last ns name)
  where
    at : (o : Option Node) → ((node : Node) → node_below (ns ++ name ∷ []) node ≡ option_and_then (child_of name) (node_below ns node)) →
        option_and_then (λ (child : Node). node_below (ns ++ name ∷ []) child) o ≡ option_and_then (child_of name)
        (option_and_then (λ (child : Node). node_below ns child) o)
    at None rest = refl
    at (Some node) rest = rest node

-- what stands under a good name is the child of what stands at the directory
pub node_in : (top : Node) (path name : List ℕ) → is_good_name name ≡ true
    → node_at top (path_in path name) ≡ option_and_then (child_of name) (node_at top path)
node_in top path name good =
    ap (λ (l : List (List ℕ)). node_below l top) (names_in path name good) ∙ below_last (names_of_path path) name top

-- ---- each entry of distinct names is found by its name

first_found : (c : Child) (cs : List Child) → child_among c.0.items (c ∷ cs) ≡ Some c.1
first_found c cs = ap (λ b. option_map (λ (d : Child). d.1) (cond b (Some c) (find (λ (d : Child). bytes_eq d.0.items c.0.items) cs)))
    ((bytes_eq-Decides c.0.items c.0.items).1 refl)

later_found : (c : Child) (cs ds : List Child) → AllByRecursion (λ k. eq_by_cmp bytes_cmp c.0.items k ≡ false)
    (names (map entry_of_child ds)) →
    AllByRecursion (λ (d : Child). child_among d.0.items cs ≡ Some d.1) ds
    → AllByRecursion (λ (d : Child). child_among d.0.items (c ∷ cs) ≡ Some d.1) ds
later_found c cs [] other all = tt
later_found c cs (d ∷ ds) other all = (
  ap (λ b. option_map (λ (x : Child). x.1) (cond b (Some c) (find (λ (x : Child). bytes_eq x.0.items d.0.items) cs)))
      (sym (is_eq-slice_cmp c.0.items d.0.items) ∙ other.0) ∙ all.0,
  later_found c cs ds other.1 all.1,
)

-- each child of a directory is found by its name
pub each_found : (cs : List Child) → HaveDistinctNames (map entry_of_child cs)
    → AllByRecursion (λ (c : Child). child_among c.0.items cs ≡ Some c.1) cs
unfolding IsDistinct
each_found [] distinct = tt
each_found (c ∷ cs) distinct = (first_found c cs, later_found c cs cs distinct.0 (each_found cs distinct.1))
