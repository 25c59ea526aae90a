-- The listing of a directory of the system, by the names that its reads return and by looks at these names.
use Rattle.std.specs.Prelude.{◌≡◌, ◌⊎◌, ℕ, List, ◌++◌, Ok, Err}
use Rattle.lc_io.specs.Reads.{Answer}
use Rattle.lc_tree.specs.{Named.{Names, Looks, ListsNamed}, SysLooks.{AnyLook, ShowsIn}, SysNames.{with_slash, AreNamesRead}}
use Rattle.lc_tree.specs.{SysTrees.{SysTop, HasNoPath, IsFaultOfOpening}, Trees.Listings, declared.read_fault.ReadFault.TheVariants.Failed}

-- `may_give` says what a read of a directory may return
module _ {D : Type 0} (may_give : D → ℕ → Answer → D → Type 0) where
  -- the reads of some directory returned these names, or the directory can't be read
  abbrev pub NamesOfSome : Names
  NamesOfSome (Ok names) = (old : D) × (new : D) × AreNamesRead may_give old names new
  NamesOfSome (Err found) = IsFaultOfOpening found

-- what a look at a name may show, in the directory at a path of such a tree: whatever the system may answer; if the path has none in the
-- system, looks fail
abbrev pub SysShows : SysTop → List ℕ → Looks
SysShows top path name shown =
    ShowsIn (λ _. AnyLook top.stays) path (with_slash (top.text ++ path)) name shown ⊎ (HasNoPath top path × (shown ≡ Err Failed))

-- what listing a path of such a tree may return: the listing of names that the reads of some directory returned
abbrev pub SysListings : {D : Type 0} → (D → ℕ → Answer → D → Type 0) → SysTop → List ℕ → Listings
SysListings may_give top path = ListsNamed (NamesOfSome may_give) (SysShows top path)
