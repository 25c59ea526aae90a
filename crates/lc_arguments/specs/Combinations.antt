-- Options of a count that go together.
use Rattle.std.specs.Prelude.{◌&&◌, ◌||◌, ℕ, Bool, true, false, not, is_some, length, nat_lt, List, Option, Some, None, codes}
use Rattle.std.specs.{Option.option_map_or, Str.bytes_eq}
use Rattle.clap.specs.Walk.{is_empty}
use Rattle.lc_sheet.specs.{Formats.is_for_reading, Keys.are_all}
use Rattle.lc_sheet.specs.declared.table_options.{Columns.Columns, Format.TheVariants.Csv}
use Rattle.lc_sheet.specs.declared.table_options.Output.{Output, TheVariants.{Text, Picture, Tree, Paths}}
use Rattle.lc_sheet.specs.declared.table_options.Order.{Order, TheVariants.Name}
use Rattle.lc_arguments.specs.declared.{count.CountRequest.CountRequest, diff.DiffRequest.DiffRequest, sum.SumRequest.SumRequest}
use Rattle.lc_arguments.specs.declared.{walk_request.WalkRequest.WalkRequest, table.TableRequest.TableRequest}
use Rattle.lc_arguments.specs.declared.request.Request.{Request, TheVariants.{Count, Diff, Sum}}

-- the named format shows each row's share of the total if `--share` is used; without a named format, `--share` means a table, which does
abbrev pub shows_shares : Option Output → Bool
shows_shares None = true
shows_shares (Some output) = is_for_reading output

-- `--format csv` or `--format paths` was typed: the formats that have records of one kind only
abbrev pub has_one_kind : Option Output → Bool
has_one_kind (Some (Text Csv)) = true
has_one_kind (Some Paths) = true
has_one_kind _ = false

-- `--format html` or `--format tree` was typed: a picture or a tree, which draw boxes of directories and files
abbrev pub draws_boxes : Option Output → Bool
draws_boxes (Some Picture) = true
draws_boxes (Some Tree) = true
draws_boxes _ = false

-- `--format paths` was typed
abbrev pub is_paths : Option Output → Bool
is_paths (Some Paths) = true
is_paths _ = false

-- the format can show how two sides differ
abbrev pub shows_differences : Option Output → Bool
shows_differences format = not (draws_boxes format || is_paths format)

-- `--sort name` was typed: the order that sorts by no number
abbrev pub is_by_name : Option Order → Bool
is_by_name (Some Name) = true
is_by_name _ = false

-- `--by` names a different set of columns than ext, text and eol, the columns of a report's rows
abbrev pub narrows : Option Columns → Bool
narrows None = false
narrows (Some by) = not (are_all by)

-- a table lists files or skipped entries, is limited by `--top`, or has other columns than a report's rows
abbrev pub asks_for_rows : TableRequest → Bool → Bool
asks_for_rows table left_out = table.files || left_out || is_some table.top || narrows table.by

-- the options of a picture or a tree can be combined: it lists nothing, shows all rows of a report, and is not sorted by name
abbrev pub boxes_fit : TableRequest → Bool → Bool
boxes_fit table left_out =
    not (draws_boxes table.format && asks_for_rows table left_out) && not (draws_boxes table.format && is_by_name table.sort)

-- shares need a format that can show them; csv and paths list files or skipped entries, but not both; paths are in no rows, so they need no
-- columns; and the options of a picture or a tree can be combined
abbrev pub table_fits : TableRequest → Bool → Bool
table_fits table left_out =
    (not table.share || shows_shares table.format)
    && (not (table.files && left_out && has_one_kind table.format)
    && (not (is_paths table.format && is_some table.by) && boxes_fit table left_out))

-- `--only` or `--only-from` chooses paths, which are relative to one directory
abbrev pub asks_for_paths : WalkRequest → Bool
asks_for_paths w = not (is_empty w.only.items) || is_some w.only_from

-- `--null` needs `--only-from`
abbrev pub walk_fits : WalkRequest → Bool
walk_fits w = not w.null || is_some w.only_from

-- `--null` needs `--only-from` or `--format paths`
abbrev pub null_fits : CountRequest → Bool
null_fits c = walk_fits c.walk || is_paths c.table.format

-- `--only` and `--only-from` need one directory, because their paths are relative to it
abbrev pub paths_fit : CountRequest → Bool
paths_fit c = not (nat_lt 1 (length c.directories.items) && asks_for_paths c.walk)

-- the options of the table can be combined; `--null` has paths to end; and chosen paths belong to one directory
abbrev pub fit_together : CountRequest → Bool
fit_together c = table_fits c.table c.left_out && (null_fits c && paths_fit c)

-- the options of the table can be combined, and `--null` has paths to end
abbrev pub sum_fits : SumRequest → Bool
sum_fits s = table_fits s.table s.left_out && (not s.null || is_paths s.table.format)

-- the word is `-`, which names standard input
abbrev pub is_dash : List ℕ → Bool
is_dash word = bytes_eq word (codes "-")

-- the paths of `--only-from` are read from standard input
abbrev pub takes_input : WalkRequest → Bool
takes_input w = option_map_or (λ file. is_dash file.now) w.only_from false

-- at most one of OLD, NEW and the file of `--only-from` is standard input
abbrev pub reads_input_once : DiffRequest → Bool
reads_input_once d =
    not (is_dash d.old.now && is_dash d.new.now) && not (takes_input d.walk && (is_dash d.old.now || is_dash d.new.now))

-- the format can show differences; the options of the table can be combined, and the options that choose files can be; and standard input
-- is read once
abbrev pub diff_fits : DiffRequest → Bool
diff_fits d = shows_differences d.table.format && (table_fits d.table false && (walk_fits d.walk && reads_input_once d))

-- the options of a request can be combined
abbrev pub fits : Request → Bool
fits (Count c) = fit_together c
fits (Sum s) = sum_fits s
fits (Diff d) = diff_fits d
fits other = true
