-- The lines on standard error about what a count or a sum could not read.
use Rattle.std.specs.Prelude.{◌≡◌, ℕ, Bool, true, false, cond, not, List, [], ◌∷◌, ◌++◌, length, flat_map, bytes_eq, codes, decimal}
use Rattle.std.specs.{Prelude.{nat_eq, Option}, List.{filter, list_any}}
use Rattle.lc_arguments.specs.Directories.{unslashed}
use Rattle.lc_level.specs.FaultLines.{FaultLineModel}
use Rattle.lc_text.specs.Visible.{visible_bytes}
use Rattle.lc_sheet.specs.declared.table_options.Format.TheVariants.{Tsv, Table, Json, Csv, Markdown}
use Rattle.lc_sheet.specs.declared.table_options.Output.{Output, TheVariants.{Text, Picture, Tree, Paths}}
use Rattle.lc_program.specs.{Commands.or_here, Reasons.uncounted_line}
use Rattle.lc_program.specs.declared.unread_reason.UnreadReason.{UnreadReason}
use Rattle.lc_reports.specs.Named.{named_top}

-- the line that says that a path could not be read
abbrev pub unread_line : List ℕ → List ℕ
unread_line path = codes "lc: cannot read " ++ visible_bytes path ++ codes "\n"

-- a line for each path that could not be read. The empty path, of the counted directory itself, is a dot
abbrev pub each_line : List FaultLineModel → List ℕ
each_line faults = flat_map (λ (f : FaultLineModel). unread_line (or_here f.path)) faults

-- the beginning of the line with the number of paths that could not be read
abbrev pub number_text : ℕ → List ℕ
number_text count = cond (nat_eq count 1) (codes "lc: 1 path could not be read: see ")
    (codes "lc: " ++ decimal count ++ codes " paths could not be read: see ")

-- the line with the number of paths that could not be read, and with the place where the output lists them
abbrev pub number_line : List ℕ → ℕ → List ℕ
number_line place count = number_text count ++ place ++ codes "\n"

-- the words that name the lines in which a table lists this many paths
abbrev pub fault_rows : ℕ → List ℕ
fault_rows count = cond (nat_eq count 1) (codes "the line that begins with fault") (codes "the lines that begin with fault")

-- the lines about paths inside the counted directories that could not be read: a line for each path for CSV, HTML, trees and paths, and for
-- every other format one line that names the place where the output lists them
abbrev pub lines_by : Output → List FaultLineModel → List ℕ
lines_by (Text Csv) faults = each_line faults
lines_by Picture faults = each_line faults
lines_by Tree faults = each_line faults
lines_by Paths faults = each_line faults
lines_by (Text Tsv) faults = number_line (fault_rows (length faults)) (length faults)
lines_by (Text Table) faults = number_line (codes "the list of faults") (length faults)
lines_by (Text Markdown) faults = number_line (codes "the list of faults") (length faults)
lines_by (Text Json) faults = number_line (codes "faults") (length faults)

-- the lines about paths that could not be read, or nothing if there are none
abbrev pub lines_if : Output → List FaultLineModel → List ℕ
lines_if output [] = []
lines_if output (f ∷ fs) = lines_by output (f ∷ fs)

-- the path that a report has for an error of a counted directory itself: empty if it is the only directory, and else its name
abbrev pub top_path : List (List ℕ) → List ℕ → List ℕ
top_path [] directory = named_top (unslashed directory)
top_path (only ∷ []) directory = []
top_path (first ∷ second ∷ others) directory = named_top (unslashed directory)

abbrev pub has_path : List ℕ → List FaultLineModel → Bool
has_path path faults = list_any (λ (f : FaultLineModel). bytes_eq f.path path) faults

-- whether an error is about a path inside these directories, and not about one of these directories itself
abbrev pub is_inside : List (List ℕ) → FaultLineModel → Bool
is_inside directories f = not (list_any (λ directory. bytes_eq f.path (top_path directories directory)) directories)

abbrev pub inside : List (List ℕ) → List FaultLineModel → List FaultLineModel
inside directories faults = filter (is_inside directories) faults

-- the lines about a count of these directories, by the reasons that the system may give why one could not be listed
module _ (may_unlist : List ℕ → Option UnreadReason → Type 0) (directories : List (List ℕ)) (faults : List FaultLineModel) where
  -- a text is the line about a counted directory: if it could not be listed itself, that and why; else nothing
  abbrev pub IsTopLine : Bool → List ℕ → List ℕ → Type 0
  IsTopLine true directory text = (why : Option UnreadReason) × may_unlist directory why × (text ≡ uncounted_line directory why)
  IsTopLine false directory text = text ≡ []

  -- a text has a line for each of these directories that could not be listed itself
  abbrev pub AreTopLines : List (List ℕ) → List ℕ → Type 0
  AreTopLines [] text = text ≡ []
  AreTopLines (directory ∷ others) text =
      (line rest : List ℕ) × IsTopLine (has_path (top_path directories directory) faults) directory line × AreTopLines others rest
      × (text ≡ line ++ rest)

-- a text has the lines about what a count of these directories could not read: those about directories that could not be listed, and then
-- those about paths inside the directories, by the format; nothing if all was read
module _ (may_unlist : List ℕ → Option UnreadReason → Type 0) (directories : List (List ℕ)) (output : Output) where
  abbrev pub AreFaultLines : List FaultLineModel → List ℕ → Type 0
  AreFaultLines [] text = text ≡ []
  AreFaultLines (f ∷ fs) text =
      (tops : List ℕ) × AreTopLines may_unlist directories (f ∷ fs) directories tops
      × (text ≡ tops ++ lines_if output (inside directories (f ∷ fs)))
