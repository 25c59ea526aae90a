-- What the calls of a tree may return.
use Rattle.std.specs.Prelude.{◌≡◌, ◌≢◌, ℕ, Bool, List, [], ◌∷◌, ◌++◌, length, Result, Ok, Err, Option, None, Some, MatchResult, IsTrue}
use Rattle.std.specs.{Prelude.IsFalse, List.{concat, AllByRecursion}}
use Rattle.lc_io.specs.Reads.{Answer, AnyRoom, RoomOf, Stop, at_end, at_failure, at_neither, Reads}
use Rattle.lc_tree.specs.{Listing.{EntryModel, IsListing}, declared.read_fault.ReadFault.ReadFault}
use Rattle.lc_tree.specs.declared.read_fault.ReadFault.TheVariants as fault

-- what listing a path may return, apart from a failed allocation: entries, or an error
abbrev pub Listings : Type 1
Listings = Result (List EntryModel) ReadFault → Type 0

-- the lengths of the buffers of some reads: any lengths, or this length for all
abbrev pub Rooms : Type 0
Rooms = Option ℕ

abbrev pub IsRoom : Rooms → ℕ → Type 0
IsRoom None = AnyRoom
IsRoom (Some size) = RoomOf size

-- what the reads of an opened file into such buffers may return: pieces, one after another, and how the reads stop
abbrev pub Contents : Type 1
Contents = Rooms → List (List ℕ) → Stop → Type 0

-- the result of a listing is one of these, or an allocation failed
abbrev pub Lists : Listings → Result (List EntryModel) ReadFault → Type 0
Lists may (Ok entries) = may (Ok entries)
Lists may (Err fault.Failed) = may (Err fault.Failed)
Lists may (Err fault.Unnamed) = may (Err fault.Unnamed)
Lists may (Err fault.BadName) = may (Err fault.BadName)
Lists may (Err fault.Twice) = may (Err fault.Twice)
Lists may (Err fault.TooMany) = may (Err fault.TooMany)
Lists may (Err fault.Memory) = Unit {0}

-- the result of a listing is no failed allocation, and its entries make a listing
abbrev pub IsTold : Result (List EntryModel) ReadFault → Type 0
IsTold (Ok entries) = IsListing entries
IsTold (Err fault.Failed) = Unit {0}
IsTold (Err fault.Unnamed) = Unit {0}
IsTold (Err fault.BadName) = Unit {0}
IsTold (Err fault.Twice) = Unit {0}
IsTold (Err fault.TooMany) = Unit {0}
IsTold (Err fault.Memory) = ⊥

-- listing may have some result that satisfies `IsTold`
abbrev pub TellsSome : Listings → Type 0
TellsSome may = (answer : Result (List EntryModel) ReadFault) × IsTold answer × may answer

-- the result of listing a directory that can't be read
abbrev pub unread : Result (List EntryModel) ReadFault
unread = Err fault.Failed

-- everything that reads of a file return is one of these contents
abbrev pub GivesOnly : {F : Type 0} → (F → ℕ → Answer → F → Type 0) → Contents → F → Type 0
GivesOnly {F} may_give gives file = (rooms : Rooms) (pieces : List (List ℕ)) (stop : Stop) (left : F)
    → Reads may_give (IsRoom rooms) file pieces stop left → gives rooms pieces stop

-- the error of a file that can't be opened: `Failed` only if the contents allow that the first read fails; any other is a failed allocation
abbrev pub IsOpenFault : Contents → ReadFault → Type 0
IsOpenFault gives fault.Failed = (rooms : Rooms) → gives rooms [] at_failure
IsOpenFault gives fault.Unnamed = ⊥
IsOpenFault gives fault.BadName = ⊥
IsOpenFault gives fault.Twice = ⊥
IsOpenFault gives fault.TooMany = ⊥
IsOpenFault gives fault.Memory = Unit {0}

-- the result of opening a file: a file whose reads return only these contents, or an error
abbrev pub Opens : {F : Type 0} → (F → ℕ → Answer → F → Type 0) → Contents → Result F ReadFault → Type 0
Opens may_give gives answer = MatchResult answer (GivesOnly may_give gives) (IsOpenFault gives)

-- the bytes of a file, and whether it fails in place of its end
pub record Content : Type 0 where
  pub bytes : List ℕ
  pub fails : Bool

-- none of the pieces is empty
abbrev pub AreSome : List (List ℕ) → Type 0
AreSome pieces = AllByRecursion (λ piece. piece ≢ []) pieces

-- each of the pieces but the last is as long as the buffers
abbrev pub FillRooms : Rooms → List (List ℕ) → Type 0
FillRooms rooms [] = Unit {0}
FillRooms rooms (piece ∷ []) = Unit {0}
FillRooms rooms (piece ∷ next ∷ pieces) = IsRoom rooms (length piece) × FillRooms rooms (next ∷ pieces)

-- what reads may return of this content: all its bytes in pieces, none empty, as much as the buffers hold, and how they stop; or only a
-- part of the bytes
abbrev pub GivesContent : Content → Contents
GivesContent content rooms pieces at_end =
    AreSome pieces × (concat pieces ≡ content.bytes) × IsFalse content.fails × FillRooms rooms pieces
GivesContent content rooms pieces at_failure =
    AreSome pieces × (concat pieces ≡ content.bytes) × IsTrue content.fails × FillRooms rooms pieces
GivesContent content rooms pieces at_neither =
    AreSome pieces × ((rest : List ℕ) × (concat pieces ++ rest ≡ content.bytes)) × FillRooms rooms pieces

-- a file may have this content: its reads may return whatever reads may return of this content
abbrev pub MayHold : Contents → Content → Type 0
MayHold gives content =
    (rooms : Rooms) (pieces : List (List ℕ)) (stop : Stop) → GivesContent content rooms pieces stop → gives rooms pieces stop
