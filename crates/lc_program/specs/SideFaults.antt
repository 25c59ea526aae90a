-- The lines on standard error about what the sides of a comparison could not read.
use Rattle.std.specs.Prelude.{ℕ, List, ◌++◌, flat_map, codes}
use Rattle.lc_level.specs.FaultLines.{FaultLineModel}
use Rattle.lc_program.specs.{Commands.or_here, ReportLines.origin_of}
use Rattle.lc_text.specs.Visible.{visible_bytes}

-- the part of a line, after the name of a side, that says that a path of this side could not be read
abbrev pub side_path : List ℕ → List ℕ
side_path path = codes ": cannot read " ++ visible_bytes path ++ codes "\n"

-- the line that says that a path of a side could not be read
abbrev pub side_line : List ℕ → List ℕ → List ℕ
side_line name path = codes "lc: " ++ visible_bytes name ++ side_path path

-- the line about an error of a side. The path of the side itself is a dot
abbrev pub fault_line : List ℕ → FaultLineModel → List ℕ
fault_line name f = side_line name (or_here f.path)

-- a line for each error of a side with this name
abbrev pub side_lines : List ℕ → List FaultLineModel → List ℕ
side_lines name faults = flat_map (fault_line name) faults

-- the lines about the old side, and then those about the new side
abbrev pub lines_of : List ℕ → List FaultLineModel → List ℕ → List FaultLineModel → List ℕ
lines_of old olds new news = side_lines (origin_of old) olds ++ side_lines (origin_of new) news
