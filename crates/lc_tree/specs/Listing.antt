-- Entries of a directory, the names that they may have, and what makes them a listing.
use Rattle.std.specs.{Prelude.{ℕ, ◌<◌, ◌≤◌, Bool, List, length, map, IsTrue, IsFalse, Result, Ok, Err}, List.list_all}
use Rattle.std.specs.{List.Sorted.IsPermutation, declared.cmp.Ordering.Ordering, Ordering.on}
use Rattle.lc_glob.specs.Path.{is_good_name}
use Rattle.lc_tree.specs.{ByteOrder.{bytes_cmp, AreApart, AreInOrder}, declared.entry.Kind.Kind}
use Rattle.lc_tree.specs.declared.listing.ListingFault.{ListingFault, TheVariants.{BadName, Twice, TooMany, Memory}}
use Rattle.lc_tree.specs.declared.read_fault.ReadFault.{ReadFault}
use Rattle.lc_tree.specs.declared.read_fault.ReadFault.TheVariants as fault

-- an entry: its name, and what the entry is
pub record EntryModel : Type 0 where
  pub name : List ℕ
  pub kind : Kind

-- the names of entries, in the order of the entries
abbrev pub names : List EntryModel → List (List ℕ)
names es = map (λ e. e.name) es

-- the order of entries by their names
abbrev pub by_name : EntryModel → EntryModel → Ordering
by_name = on (λ (e : EntryModel). e.name) bytes_cmp

-- whether all names are good
abbrev pub have_good_names : List EntryModel → Bool
have_good_names es = list_all (λ e. is_good_name e.name) es

-- no two entries have the same name
abbrev pub HaveDistinctNames : List EntryModel → Type 0
HaveDistinctNames es = AreApart (names es)

-- the maximum number of entries of a listing
abbrev pub max_entries : ℕ
max_entries = 1048576

-- a listing: all names are good, each name is less than the names after it, and there are not too many entries
pub record IsListing (es : List EntryModel) : Type 0 where
  pub good : IsTrue (have_good_names es)
  pub order : AreInOrder (names es)
  pub few : length es ≤ max_entries

-- `listed` is the listing of the entries `es`
pub record IsListingOf (es listed : List EntryModel) : Type 0 where
  pub entries : IsPermutation es listed
  pub listing : IsListing listed

-- why entries make no listing: each error only if the errors before it do not apply; a failed allocation is never the reason
abbrev pub IsRefusedBy : List EntryModel → ListingFault → Type 0
IsRefusedBy es BadName = IsFalse (have_good_names es)
IsRefusedBy es Twice = IsTrue (have_good_names es) × (HaveDistinctNames es → ⊥)
IsRefusedBy es TooMany = IsTrue (have_good_names es) × HaveDistinctNames es × (max_entries < length es)
IsRefusedBy es Memory = ⊥

-- the result for these entries: their listing, or the error for which they make no listing
abbrev pub IsAnswerFor : List EntryModel → Result (List EntryModel) ReadFault → Type 0
IsAnswerFor entries (Ok listed) = IsListingOf entries listed
IsAnswerFor entries (Err fault.BadName) = IsRefusedBy entries BadName
IsAnswerFor entries (Err fault.Twice) = IsRefusedBy entries Twice
IsAnswerFor entries (Err fault.TooMany) = IsRefusedBy entries TooMany
IsAnswerFor entries (Err fault.Failed) = ⊥
IsAnswerFor entries (Err fault.Unnamed) = ⊥
IsAnswerFor entries (Err fault.Memory) = ⊥
