-- Counted directories, of which one is the same as another or lies in another.
use Rattle.std.specs.Prelude.{◌≡◌, ℕ, Bool, true, false, cond, List, [], ◌∷◌, ◌++◌, String, Option, Some, None, codes, string_bytes}
use Rattle.std.specs.{Prelude.{bytes_eq, nat_eq}, Global.Global, List.{AllPairs, AllZip, ends_with, starts_with, Sorted.IsPermutation}}
use Rattle.lc_glob.specs.Bytes.{slash}
use Rattle.lc_program.specs.declared.cause.Cause.{Cause, TheVariants.Nested}
use Rattle.lc_text.specs.Visible.{visible_bytes}

-- a directory: its name, and its canonical path with a slash at its end. The canonical paths of directories in it begin with this path
pub record Place : Type 0 where
  pub name : List ℕ
  pub path : List ℕ

abbrev pub with_slash : List ℕ → List ℕ
with_slash path = cond (ends_with nat_eq path (slash ∷ [])) path (path ++ slash ∷ [])

-- a directory with its canonical path, if it has one
abbrev pub place_if : List ℕ → Option (List ℕ) → List Place
place_if name None = []
place_if name (Some path) = record { name = name; path = with_slash path } ∷ []

-- the directories that have canonical paths, each with its path
abbrev pub places_of : List (List ℕ) → List (Option (List ℕ)) → List Place
places_of [] paths = []
places_of (name ∷ names) [] = []
places_of (name ∷ names) (path ∷ paths) = place_if name path ++ places_of names paths

-- whether the first directory is the same as the second, or the second lies in it
abbrev pub holds : Place → Place → Bool
holds outer inner = starts_with nat_eq inner.path outer.path

-- the line about two names of one directory, and the line about a directory that lies in another
abbrev pub one_line : List ℕ → List ℕ → List ℕ
one_line first second = codes "lc: " ++ visible_bytes first ++ codes " and " ++ visible_bytes second ++ codes " are one directory\n"

abbrev pub inner_line : List ℕ → List ℕ → List ℕ
inner_line inner outer = codes "lc: " ++ visible_bytes inner ++ codes " lies in " ++ visible_bytes outer ++ codes "\n"

-- the line about a directory that is the same as another or holds it
abbrev pub nested_line : Place → Place → List ℕ
nested_line outer inner =
    cond (bytes_eq outer.path inner.path) (one_line outer.name inner.name) (inner_line inner.name outer.name)

abbrev pub HoldsNot : Place → Place → Type 0
HoldsNot a b = (holds a b ≡ false) × (holds b a ≡ false)

-- none of these directories is the same as another or holds it
abbrev pub NoneHolds : List Place → Type 0
NoneHolds places = (ordered : List Place) × IsPermutation places ordered × AllPairs HoldsNot ordered

-- one of these directories is the same as another or holds it, and the line of this cause says so
abbrev pub OneHolds : List Place → Cause → Type 0
OneHolds places cause =
    (front back : List Place) × (outer inner : Place) × IsPermutation places (front ++ outer ∷ inner ∷ back)
    × (holds outer inner ≡ true) × ((line : String Global) × (string_bytes line ≡ nested_line outer inner) × (cause ≡ Nested line))

-- by what a system may answer for the canonical path of the directory with each name
module _ (may_stand : List ℕ → Option (List ℕ) → Type 0) where
  abbrev pub AreApart : List (List ℕ) → Type 0
  AreApart [] = Unit {0}
  AreApart (only ∷ []) = Unit {0}
  AreApart (first ∷ second ∷ others) =
      let names = first ∷ second ∷ others in
      (paths : List (Option (List ℕ))) × AllZip may_stand names paths × NoneHolds (places_of names paths)

  abbrev pub AreNested : List (List ℕ) → Cause → Type 0
  AreNested names cause = (paths : List (Option (List ℕ))) × AllZip may_stand names paths × OneHolds (places_of names paths) cause
