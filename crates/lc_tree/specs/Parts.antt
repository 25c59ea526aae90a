-- Lists that are cut into parts, and the results of the parts, joined.
use Rattle.std.specs.{Prelude.{◌≡◌, ◌⊎◌, ℕ, ◌<◌, List, [], ◌∷◌, ◌++◌, length, slice_index_or, Result, Ok, Err, Vec}, Global.Global}
use Rattle.std.specs.List.{flat_map}
use Rattle.lc_tree.specs.{Listing.EntryModel, Named.{Looks, bytes_of, LooksAt}, declared.read_fault.ReadFault.ReadFault}
use Rattle.lc_tree.specs.declared.read_fault.ReadFault.TheVariants as fault

-- the elements of all parts, part by part
abbrev pub all_of : {X : Type 0} → List (Vec X Global) → List X
all_of {X} parts = flat_map (λ (part : Vec X Global). part.items) parts

-- the result for a part: its entries, or an error
abbrev pub Part : Type 0
Part = Result (Vec EntryModel Global) ReadFault

-- the entries of all parts, none of which has an error
abbrev pub AreJoined : List Part → List EntryModel → Type 0
AreJoined [] entries = entries ≡ []
AreJoined (Ok part ∷ parts) entries = (rest : List EntryModel) × AreJoined parts rest × (entries ≡ part.items ++ rest)
AreJoined (Err found ∷ parts) entries = ⊥

-- the error of the first part that has one; before that part, an allocation may fail
abbrev pub IsFaultOfJoining : List Part → ReadFault → Type 0
IsFaultOfJoining [] found = ⊥
IsFaultOfJoining (Ok part ∷ parts) found = (found ≡ fault.Memory) ⊎ IsFaultOfJoining parts found
IsFaultOfJoining (Err first ∷ parts) found = found ≡ first

-- the names of a part
abbrev pub Run : Type 0
Run = Vec (Vec ℕ Global) Global

-- the part at each index is what looks at the names of the run at that index returned
abbrev pub HaveLooked : Looks → List Run → List Part → Type 0
HaveLooked shows runs parts = (i : ℕ) (run : Run) (part : Part) → i < length runs →
    LooksAt shows (bytes_of (slice_index_or runs i run).items) (slice_index_or parts i part)
