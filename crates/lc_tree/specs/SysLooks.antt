-- What looks at the entries of a directory of the system may show.
use Rattle.std.specs.Prelude.{◌≡◌, ◌≢◌, ◌⊎◌, ℕ, Bool, nat_lt, List, ◌++◌, length, IsTrue, IsFalse, Option, Some, None, Result, Ok, Err}
use Rattle.std.specs.{Fs.{file_type, IsFile, IsDir}, IoError.error_kind, Str.IsUtf8, declared.io.Error.Error}
use Rattle.std.specs.declared.io.ErrorKind.TheVariants.{NotFound, Interrupted}
use Rattle.lc_glob.specs.Path.{path_in, max_path}
use Rattle.lc_tree.specs.Named.{Looks}
use Rattle.lc_tree.specs.declared.entry.{Kind.{Kind, TheVariants.{File, Dir, Other}}, OtherKind.TheVariants.{Special, Mounted}}
use Rattle.lc_tree.specs.declared.{read_fault.ReadFault.ReadFault, sys_looks.Looked.Looked}
use Rattle.lc_tree.specs.declared.read_fault.ReadFault.TheVariants as fault

-- what a look at a path may return: what is known of the path, or an error
abbrev pub Answers : Type 1
Answers = Result Looked Error → Type 0

-- any result, except that a signal interrupted the look, or that a path is outside a tree that does not stay on one file system
abbrev pub AnyLook : Bool → Answers
AnyLook stays (Ok found) = IsTrue found.is_outside → IsTrue stays
AnyLook stays (Err error) = error_kind error ≢ Interrupted

-- the kind of an entry by what a look returned; a symbolic link is neither a regular file nor a directory
abbrev pub IsKindOf : Looked → Kind → Type 0
IsKindOf found File = IsFile (file_type found.metadata)
IsKindOf found Dir = IsDir (file_type found.metadata) × IsFalse found.is_outside
IsKindOf found (Other Mounted) = IsDir (file_type found.metadata) × IsTrue found.is_outside
IsKindOf found (Other Special) = (IsFile (file_type found.metadata) → ⊥) × (IsDir (file_type found.metadata) → ⊥)

-- what the result of a look tells: the kind of the entry, that there is no entry, or that the kind is unknown
abbrev pub Tells : Answers → Result (Option Kind) ReadFault → Type 0
Tells may (Ok (Some kind)) = (found : Looked) × may (Ok found) × IsKindOf found kind
Tells may (Ok None) = (error : Error) × may (Err error) × (error_kind error ≡ NotFound)
Tells may (Err fault.Failed) = (error : Error) × may (Err error) × (error_kind error ≢ NotFound)
Tells may (Err fault.Unnamed) = ⊥
Tells may (Err fault.BadName) = ⊥
Tells may (Err fault.Twice) = ⊥
Tells may (Err fault.TooMany) = ⊥
Tells may (Err fault.Memory) = Unit {0}

-- whether the path of a name in a directory is too long for a walk
abbrev pub is_beyond : List ℕ → List ℕ → Bool
is_beyond directory name = nat_lt max_path (length (path_in directory name))

-- `may` says what a look at a path of the system may return; `directory` is a directory's path in the tree, and `text` its path in the
-- system with a slash
module _ (may : List ℕ → Answers) (directory text : List ℕ) where
  -- what is told of a name that is UTF-8; if its path is too long, it is `Special`, without a look
  abbrev pub TellsOf : List ℕ → Result (Option Kind) ReadFault → Type 0
  TellsOf name told = (IsTrue (is_beyond directory name) × (told ≡ Ok (Some (Other Special))))
      ⊎ (IsFalse (is_beyond directory name) × Tells (may (text ++ name)) told)

  -- what a look at a name shows; a name that is not UTF-8 is an error
  abbrev pub ShowsIn : Looks
  ShowsIn name (Ok kind) = IsUtf8 name × TellsOf name (Ok kind)
  ShowsIn name (Err fault.Unnamed) = IsUtf8 name → ⊥
  ShowsIn name (Err fault.Failed) = IsUtf8 name × TellsOf name (Err fault.Failed)
  ShowsIn name (Err fault.BadName) = ⊥
  ShowsIn name (Err fault.Twice) = ⊥
  ShowsIn name (Err fault.TooMany) = ⊥
  ShowsIn name (Err fault.Memory) = Unit {0}
