-- The reports of a sum, which may have names.
use Rattle.std.specs.{Prelude.{◌&&◌, ℕ, Bool, true, not, cond, List, [], ◌∷◌, codes, Option, Some, None, option_map}, List.after_first}
use Rattle.std.specs.{List.{before_first, list_all, list_any}, Option.option_map_or, Str.bytes_eq}
use Rattle.lc_glob.specs.{Bytes.slash, Path.is_good_name, Pieces.is_byte}
use Rattle.lc_rules.specs.Bytes.{equals_sign}
use Rattle.lc_arguments.specs.declared.reports.NamedReport.{NamedReport}

-- a word has the form NAME=REPORT: it has an equals sign, and no slash before the first equals sign
abbrev pub has_name : List ℕ → Bool
has_name word = list_any (is_byte equals_sign) word && not (list_any (is_byte slash) (before_first (is_byte equals_sign) word))

-- the NAME of a word, if there is one, and its REPORT: the text before and after the first equals sign, or the whole word as the REPORT
abbrev pub named_of : List ℕ → Option (List ℕ) × List ℕ
named_of word =
    cond (has_name word) (Some (before_first (is_byte equals_sign) word), after_first (is_byte equals_sign) word) (None, word)

abbrev pub report_model : NamedReport → Option (List ℕ) × List ℕ
report_model r = (option_map (λ name. name.now) r.name, r.report.now)

-- a report whose path is not empty, and whose name, if there is one, can be the name of a directory
abbrev pub is_good_report : Option (List ℕ) × List ℕ → Bool
is_good_report (name, report) = not (bytes_eq report []) && option_map_or is_good_name name true

-- a word whose report is standard input
abbrev pub is_input : List ℕ → Bool
is_input word = bytes_eq (named_of word).1 (codes "-")

-- at most one of these words is standard input
abbrev pub read_input_once : List (List ℕ) → Bool
read_input_once [] = true
read_input_once (word ∷ words) = cond (is_input word) (not (list_any is_input words)) (read_input_once words)

-- words name reports: each of them a good one, and standard input at most once
abbrev pub name_reports : List (List ℕ) → Bool
name_reports words = list_all (λ word. is_good_report (named_of word)) words && read_input_once words
