-- What a tree answers for one directory. Nothing is said of its child directories but their names.
use Rattle.std.specs.Prelude.{ℕ, List, [], map, Result, Ok}
use Rattle.lc_census.specs.declared.line_count.Count.{Count}
use Rattle.lc_tree.specs.{Listing.EntryModel, declared.entry.{Kind.TheVariants.{File, Dir, Other}, OtherKind.OtherKind}}
use Rattle.lc_level.specs.declared.fault_word.FaultWord.{FaultWord}

-- an entry; a file has the result of counting it, its census or an error, and the result of reading it whole as a rule file, its bytes or
-- an error
pub data Item : Type 0 where
  file_item : (name : List ℕ) → (counted : Result Count FaultWord) → (rules : Result (List ℕ) FaultWord) → Item
  directory_item : (name : List ℕ) → Item
  other_item : (name : List ℕ) → OtherKind → Item

abbrev pub entry_of : Item → EntryModel
entry_of (file_item name counted rules) = record { name = name; kind = File }
entry_of (directory_item name) = record { name = name; kind = Dir }
entry_of (other_item name what) = record { name = name; kind = Other what }

abbrev pub entries_of : List Item → List EntryModel
entries_of items = map entry_of items

abbrev pub name_of : Item → List ℕ
name_of item = (entry_of item).name

-- the items of a listing, or the word for its error
abbrev pub Items : Type 0
Items = Result (List Item) FaultWord

-- the answers for a directory, and for `.git` and `.git/info` in it, which are read in the top alone
pub record Answers : Type 0 where
  pub here : Items
  pub git : Items
  pub info : Items

-- the answers for a directory that was not listed
abbrev pub no_answers : Answers
no_answers = record { here = Ok []; git = Ok []; info = Ok [] }

-- a tree: the answers at each place, a list of names from the top
abbrev pub Tree : Type 0
Tree = List (List ℕ) → Answers
