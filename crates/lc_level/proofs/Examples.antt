-- The tree of a small node of memory.
use Rattle.std.proofs.Common.{◌≡◌, ℕ, List, [], ◌∷◌, ◌++◌, map, refl, sym, ◌∙◌, ap, Some, Vec, Ok, Err, codes}
use Rattle.std.specs.{Prelude.option_and_then, declared.alloc.Global.Global}
use Rattle.lc_level.specs.{Answers.{Item, file_item, directory_item, other_item, Items, entry_of}, Examples.{bad_name, entries, small_node}}
use Rattle.lc_level.specs.Examples.{whole_file, small_items, vec, Names, names_in, as_it_is, exported, small_names, small_outside}
use Rattle.lc_level.specs.{Examples.small_as_it_is, Level.{by_attribute, level_of}, Filters.FiltersModel, TopJob.top_job}
use Rattle.lc_level.specs.{FileAnswers.census, NodeTrees.{item_by, item_of, listing_within, told_items, items_at, tree_of_node}}
use Rattle.lc_level.specs.declared.fault_word.FaultWord.TheVariants.{Read, Name}
use Rattle.lc_census.specs.{Census.count_of, TheCutting.cut, Cutting.{lf, Cutting, IsCutting, HasOneCutting}}
use Rattle.lc_census.specs.declared.line_count.Eol.TheVariants.{Lf}
use Rattle.lc_census.proofs.OneCutting.{cut_is}
use Rattle.lc_tree.specs.declared.entry.{OtherKind.TheVariants.Special, Kind.TheVariants.File}
use Rattle.lc_tree.specs.{declared.node.Node.{Node, roll-Node, out-roll-Node, TheOpen.Node-F}, Listed.listed, MemTrees.content_within}
use Rattle.lc_tree.specs.Nodes.{child_within, kind_within, node_below}
use Rattle.lc_glob.specs.IsMatch as IsMatch
use Rattle.lc_rules.specs.Decision as Decision

-- what is seen of a node that is written out
item_is : (name : Vec ℕ Global) (n : Node-F Node) → item_of (name, roll-Node n) ≡ item_by name.items (content_within n) (kind_within n)
item_is name n = ap (λ m. item_by name.items (content_within m) (kind_within m)) (out-roll-Node n)

items_are : (n : Node-F Node) → items_at (Some (roll-Node n)) ≡ told_items (listing_within n)
items_are n = ap (λ m. told_items (listing_within m)) (out-roll-Node n)

below_is : (name : List ℕ) (n : Node-F Node)
    → items_at (node_below (name ∷ []) (roll-Node n)) ≡ items_at (option_and_then (λ (child : Node). Some child) (child_within name n))
below_is name n = ap (λ m. items_at (option_and_then (λ (child : Node). Some child) (child_within name m))) (out-roll-Node n)

same_first : {X : Type 0} {x y : X} {xs ys : List X} → x ≡ y → xs ≡ ys → x ∷ xs ≡ y ∷ ys
same_first {x = x} {ys = ys} e rest = ap (λ l. x ∷ l) rest ∙ ap (λ z. z ∷ ys) e

module _ (alloc : Global) where
  -- the items of the directory, in no order
  abbrev items : List Item
  items =
      whole_file (codes "c") (codes "one\n") ∷ directory_item (codes "d") ∷ directory_item (codes "b") ∷ whole_file
      (codes ".gitignore") (codes "*.o\n")
      ∷ file_item (codes "e") (Err Read) (Err Read) ∷ whole_file (codes "a.o") (codes "x") ∷ other_item (codes "l") Special
      ∷ whole_file (codes ".gitattributes") (codes "s export-ignore\n") ∷ whole_file (codes "s") (codes "x") ∷ whole_file
      (codes ".git") (codes "x") ∷ []

  each_is : map item_of (entries alloc) ≡ items
  each_is =
      same_first (item_is (vec alloc (codes "c") refl) (Node-F.File (vec alloc (codes "one\n") refl)))
      (same_first (item_is (vec alloc (codes "d") refl) (Node-F.Dir (vec alloc (bad_name alloc ∷ []) refl)))
      (same_first (item_is (vec alloc (codes "b") refl) Node-F.Closed)
      (same_first (item_is (vec alloc (codes ".gitignore") refl) (Node-F.File (vec alloc (codes "*.o\n") refl)))
      (same_first (item_is (vec alloc (codes "e") refl) (Node-F.Failing (vec alloc (codes "x") refl)))
      (same_first (item_is (vec alloc (codes "a.o") refl) (Node-F.File (vec alloc (codes "x") refl)))
      (same_first (item_is (vec alloc (codes "l") refl) (Node-F.Other Special))
      (same_first (item_is (vec alloc (codes ".gitattributes") refl) (Node-F.File (vec alloc (codes "s export-ignore\n") refl)))
      (same_first (item_is (vec alloc (codes "s") refl) (Node-F.File (vec alloc (codes "x") refl)))
      (same_first (item_is (vec alloc (codes ".git") refl) (Node-F.File (vec alloc (codes "x") refl))) refl)))))))))

  -- the items of the top
  pub top_is : (tree_of_node (small_node alloc) []).here ≡ Ok small_items
  top_is = items_are (Node-F.Dir (vec alloc (entries alloc) refl)) ∙ ap (λ l. told_items (listed entry_of l)) each_is

  -- what the directory's entries become, by its listing
  abbrev names_of_listing : FiltersModel → Items → Names
  names_of_listing f here = names_in (level_of f (top_job f) (tree_of_node (small_node alloc) []) here)

  -- what its level counts, fails at, walks and leaves out
  pub names_are : small_names alloc as_it_is ≡ small_as_it_is
  unfolding IsMatch.is_match
  names_are = ap (names_of_listing as_it_is) top_is

  -- what is left out of it where it is exported
  pub unexported_are : (small_names alloc exported).outside
      ≡ small_outside ++ record { path = codes "s"; kind = File; reason = by_attribute (codes "export-ignore") } ∷ []
  unfolding IsMatch.is_match Decision.decide
  unexported_are = ap (λ here. (names_of_listing exported here).outside) top_is

  -- a closed directory can't be listed
  pub closed_is : (tree_of_node (small_node alloc) (codes "b" ∷ [])).here ≡ Err Read
  closed_is = below_is (codes "b") (Node-F.Dir (vec alloc (entries alloc) refl)) ∙ items_are Node-F.Closed

  -- one with a bad name in it can't either
  pub bad_name_is : (tree_of_node (small_node alloc) (codes "d" ∷ [])).here ≡ Err Name
  bad_name_is =
      below_is (codes "d") (Node-F.Dir (vec alloc (entries alloc) refl)) ∙ items_are (Node-F.Dir (vec alloc (bad_name alloc ∷ []) refl))
      ∙ ap (λ item. told_items (listed entry_of (item ∷ []))) (item_is (vec alloc (codes "x/y") refl) (Node-F.Other Special))

  -- and what is not there
  pub none_is : (tree_of_node (small_node alloc) (codes "f" ∷ [])).here ≡ Err Read
  none_is = below_is (codes "f") (Node-F.Dir (vec alloc (entries alloc) refl))

-- the one cutting of these bytes
abbrev one_line : Cutting
one_line = record { lines = record { text = codes "one"; end = lf } ∷ []; rest = [] }

is_one_line : IsCutting (codes "one\n") one_line
is_one_line = record { lines = (refl, refl, tt); rest = refl; whole = refl }

-- the census of its file
pub census_is : ((bytes : List ℕ) → HasOneCutting bytes) → census (codes "one\n") ≡ record { lines = 1; blank = 0; bytes = 4; eol = Lf }
census_is one =
    let cutting = one (codes "one\n") in
    ap (count_of (codes "one\n")) (cutting.2 (cut (codes "one\n")) (cut_is (codes "one\n")) ∙ sym (cutting.2 one_line is_one_line))
