-- Parts of lines with tabs, as the code makes them.
use Rattle.std.specs.{Prelude.{ℕ, List, ◌++◌, codes}, List.flat_map}

-- a tab before a field
abbrev pub after_tab : List ℕ → List ℕ
after_tab field = codes "\t" ++ field

-- fields with a tab before each
abbrev pub after_tabs : List (List ℕ) → List ℕ
after_tabs fields = flat_map after_tab fields
