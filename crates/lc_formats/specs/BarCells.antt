-- How many cells bars have in the last column of a table, so that its lines fit a terminal of 80 columns.
use Rattle.std.specs.Prelude.{ℕ, ◌+◌, ◌-◌, ◌==◌, min, nat_lt, Bool, true, false, if◌then◌else◌, List, length, take, slice_get, Option, Some}
use Rattle.lc_sheet.specs.declared.column.Column.{Column}
use Rattle.lc_formats.specs.{Columns.line_width, Shares.full_bar}
use Rattle.lc_sheet.specs.declared.column.Column.TheVariants as column

-- whether a column is there and is that of bars
abbrev pub is_bar : Option Column → Bool
is_bar (Some column.Bar) = true
is_bar other = false

-- whether the last column is that of bars
abbrev pub ends_in_bars : List Column → Bool
ends_in_bars columns = is_bar (slice_get columns (length columns - 1))

-- the widths of all columns but the last
abbrev pub but_last : List ℕ → List ℕ
but_last ws = take (length ws - 1) ws

-- how many of the 80 columns of a terminal are free after these columns and the gap behind them
abbrev pub room_after : List ℕ → ℕ
room_after ws = 80 - (line_width ws + 2)

-- how many cells the longest bar has in the last of these columns: as many as there is room for, at most 20; none if there is no room for 5
abbrev pub bar_cells : List ℕ → ℕ
bar_cells ws = if nat_lt (room_after (but_last ws)) 5 then 0 else min full_bar (room_after (but_last ws))

-- the columns below which rules are drawn: not the last one, of bars, if bars have no cells
abbrev pub ruled : ℕ → List ℕ → List ℕ
ruled k ws = if k == 0 then but_last ws else ws
