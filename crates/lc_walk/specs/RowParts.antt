-- What is stored of a listed directory, and the row that it stands for: without anything to list, no lists are stored.
use Rattle.std.specs.{Prelude.[], Box.box_value}
use Rattle.lc_walk.specs.{RowViews.ListedRowModel, declared.row.RowParts.{RowParts, TheVariants.{Bare, Full}}}

abbrev pub listed_in : RowParts → ListedRowModel
listed_in (Bare job entries) = record { job = job; entries = entries; files = []; faults = []; skipped = []; children = [] }
listed_in (Full parts) = box_value parts
