-- Which entries of a directory the paths of `--only` select.
use Rattle.std.specs.{Prelude.{ℕ, ◌==◌, Bool, ◌&&◌, ◌||◌, not, cond, List, [], ◌∷◌, ◌++◌, Option, Some, None, bytes_eq}, List.filter}
use Rattle.std.specs.{List.{filter_map, list_any}, Option.{is_none, is_some}, Ordering.is_lt}
use Rattle.lc_glob.specs.{Bytes.slash, Lists.is_empty}
use Rattle.lc_level.specs.Answers.{Item, entry_of}
use Rattle.lc_tree.specs.{ByteOrder.bytes_cmp, Kinds.is_dir, Listing.EntryModel}

-- what follows these first bytes in a text, if the text begins with them
abbrev pub after : List ℕ → List ℕ → Option (List ℕ)
after [] text = Some text
after (b ∷ bs) [] = None
after (b ∷ bs) (c ∷ cs) = cond (b == c) (after bs cs) None

-- whether a path is below another
abbrev pub stands_below : List ℕ → List ℕ → Bool
stands_below path other = is_some (after (other ++ slash ∷ []) path)

-- a path relative to a directory, if it is below the directory; every path but the empty one is below the top
abbrev pub rest_from : List ℕ → List ℕ → Option (List ℕ)
rest_from [] path = cond (is_empty path) None (Some path)
rest_from (b ∷ bs) path = after (b ∷ bs ++ slash ∷ []) path

-- paths in the order of their bytes, with one more path, unless it is among them already
abbrev pub put_among : List ℕ → List (List ℕ) → List (List ℕ)
put_among path [] = path ∷ []
put_among path (p ∷ ps) = cond (is_lt (bytes_cmp path p)) (path ∷ p ∷ ps) (p ∷ cond (bytes_eq path p) ps (put_among path ps))

-- each path once, in the order of their bytes
abbrev pub each_once : List (List ℕ) → List (List ℕ)
each_once [] = []
each_once (path ∷ paths) = put_among path (each_once paths)

-- whether an entry of a directory leads to a path that is relative to this directory: it is at the path, or is a directory above it
abbrev pub leads_to : EntryModel → List ℕ → Bool
leads_to e rest = bytes_eq e.name rest || (is_dir e.kind && stands_below rest e.name)

-- what the paths of `--only` select of a directory: whether all of it, and the paths below it, relative to the directory
pub record SelectionModel : Type 0 where
  pub whole : Bool
  pub rests : List (List ℕ)

-- whether an entry is selected, by what is selected of its directory
abbrev pub has_part : SelectionModel → EntryModel → Bool
has_part w e = w.whole || list_any (leads_to e) w.rests

-- the paths that are given
abbrev pub paths_in : Option (List (List ℕ)) → List (List ℕ)
paths_in None = []
paths_in (Some paths) = paths

module _ (only : Option (List (List ℕ))) (directory : List ℕ) where
  -- whether all of a directory is selected: no paths are given, or it is one of them or below one
  abbrev pub is_whole : Bool
  is_whole = is_none only || list_any (λ path. bytes_eq path directory || stands_below directory path) (paths_in only)

  -- the paths that are below the directory, relative to it
  abbrev pub rests : List (List ℕ)
  rests = filter_map (rest_from directory) (each_once (paths_in only))

  abbrev pub selection_in : SelectionModel
  selection_in = record { whole = is_whole; rests = rests }

  -- whether an entry is selected; `part_of` has the selected items
  abbrev pub takes_part : EntryModel → Bool
  takes_part e = is_whole || list_any (leads_to e) rests

  abbrev pub part_of : List Item → List Item
  part_of items = filter (λ item. takes_part (entry_of item)) items

  -- the paths to which no entry leads, relative to the directory
  abbrev pub absent_from : List Item → List (List ℕ)
  absent_from items = filter (λ rest. not (list_any (λ item. leads_to (entry_of item) rest) items)) rests
