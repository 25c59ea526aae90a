-- What a path buffer holds.
use Rattle.std.specs.Prelude.{◌≡◌, ℕ, true, false, List, length, nat_lt, Result, Ok, Err}
use Rattle.lc_glob.specs.Path.{max_path}
use Rattle.lc_level.specs.declared.open_fault.OpenFault.{OpenFault, TheVariants.{Faulted, Memory, TooDeep}}

-- the path of a directory, and that path or one of an entry of the directory
pub record PathBufferModel : Type 0 where
  pub directory : List ℕ
  pub path : List ℕ

-- the result of setting the path to that of an entry: the buffer has this path, which is not too long for a walk; or an error
abbrev pub IsNamed : List ℕ → List ℕ → Result (Unit {0}) OpenFault → Type 0
IsNamed path new (Ok _) = (new ≡ path) × (nat_lt max_path (length path) ≡ false)
IsNamed path new (Err Memory) = Unit {0}
IsNamed path new (Err TooDeep) = nat_lt max_path (length path) ≡ true
IsNamed path new (Err (Faulted site word)) = ⊥
