-- What the calls of a tree of the system may return.
use Rattle.std.specs.{Prelude.{◌≡◌, ◌⊎◌, ℕ, Bool, List, [], ◌∷◌, ◌++◌}, Str.IsUtf8}
use Rattle.lc_glob.specs.Bytes.{slash}
use Rattle.lc_tree.specs.{Trees.{Contents, IsOpenFault}, Bounds.is_one, declared.file_systems.FileSystems.FileSystems}
use Rattle.lc_tree.specs.declared.read_fault.ReadFault.{ReadFault, TheVariants.{Failed, Memory}}

-- the reads of a file may give anything
abbrev pub AnyContents : Contents
AnyContents rooms pieces stop = Unit {0}

-- `Failed` or `Memory`, the errors of opening a file
abbrev pub IsFaultOfOpening : ReadFault → Type 0
IsFaultOfOpening fault = IsOpenFault AnyContents fault

-- the text before the paths of a tree's entries: the path of its top and a slash; an empty path of the top stays empty
abbrev pub top_text : List ℕ → List ℕ
top_text [] = []
top_text (b ∷ bs) = b ∷ bs ++ slash ∷ []

-- the top of such a tree: the text before the paths of its entries, and whether the tree stays on one file system
pub record SysTop : Type 0 where
  pub text : List ℕ
  pub stays : Bool

-- the top of the tree of this directory that enters these file systems
abbrev pub sys_top : List ℕ → FileSystems → SysTop
sys_top directory entered = record { text = top_text directory; stays = is_one entered }

-- a path of such a tree that has none in the system: the top has no name, or the path is not UTF-8
abbrev pub HasNoPath : SysTop → List ℕ → Type 0
HasNoPath top path = (top.text ≡ []) ⊎ (IsUtf8 path → ⊥)

-- why the system's path of a path of the tree was not made: an allocation failed, or the path has none
abbrev pub IsFaultOfPath : SysTop → List ℕ → ReadFault → Type 0
IsFaultOfPath top path fault = (fault ≡ Memory) ⊎ (HasNoPath top path × (fault ≡ Failed))
