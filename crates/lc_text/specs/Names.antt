-- A name as it is printed: bytes with what is put before and after them.
use Rattle.std.specs.Prelude.{ℕ, List, [], ◌++◌, Option, Some, None, codes, decimal}
use Rattle.lc_text.specs.declared.name.Name.{Name}

-- what is before the bytes, the bytes, what is after them, and the number of a line
pub record NameModel : Type 0 where
  pub front : List ℕ
  pub bytes : List ℕ
  pub end : List ℕ
  pub line : Option ℕ

abbrev pub name_model : Name → NameModel
name_model n = record { front = n.front.now; bytes = n.bytes.now; end = n.end.now; line = n.line }

-- a colon and the number of a line, where there is one
abbrev pub line_end : Option ℕ → List ℕ
line_end None = []
line_end (Some line) = codes ":" ++ decimal line

-- a name whose bytes are written by `escape`
abbrev pub named : (List ℕ → List ℕ) → NameModel → List ℕ
named escape n = n.front ++ escape n.bytes ++ n.end ++ line_end n.line
