use Rattle.std.proofs.Common.{◌≡◌, ◌++◌, flat_map, length, string_bytes}
use Rattle.lc_sheet.specs.Sheets.{lines_of}
use Rattle.lc_formats.specs.Paths.{ended, path_in, refusals}
use Rattle.lc_formats.proofs.paths.push_section.Given as goal

abbrev pub invariant-lines : goal.invariant-lines
invariant-lines g l =
    (l.paths.text.items ++ ended l.end (flat_map path_in (lines_of (g.L.Lines.value_in l.form) l.columns l.rest))
    ≡ l.initial.paths.text.items ++ ended l.end (flat_map path_in (lines_of (g.L.Lines.value_in l.form) l.columns l.initial.rest)))
    × (string_bytes l.paths.refused ++ refusals l.end (flat_map path_in (lines_of (g.L.Lines.value_in l.form) l.columns l.rest))
    ≡ string_bytes l.initial.paths.refused
    ++ refusals l.end (flat_map path_in (lines_of (g.L.Lines.value_in l.form) l.columns l.initial.rest)))

abbrev pub decreases-lines : goal.decreases-lines
decreases-lines g l = length l.rest
