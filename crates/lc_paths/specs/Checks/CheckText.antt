-- The text of a check: a line for each path, by what the rules say of a path.
use Rattle.std.specs.Prelude.{◌≡◌, ◌<◌, ◌≤◌, ℕ, Bool, true, false, ◌&&◌, nat_eq, cond, List, ◌++◌, length, take, slice_index, codes}
use Rattle.std.specs.List.{list_any, range_with_len, flat_map}
use Rattle.lc_glob.specs.Bytes.{slash}
use Rattle.lc_rules.specs.{IgnoreRules.RuleModel, Verdicts.{verdict_of, at_depth}, declared.verdicts.Verdict.Verdict}
use Rattle.lc_rules.specs.declared.verdicts.Verdict.TheVariants.{Ignored, Included, NoRule}
use Rattle.lc_text.specs.{Lines.input_paths_of, PathLines.{is_bad_path, is_dir_line, path_of}, declared.lines.PathEnd.PathEnd}

-- what the rules of one file say of a path, or of a directory
abbrev pub file_verdict : List RuleModel → List ℕ → Bool → Verdict
file_verdict rules path is_dir = verdict_of (at_depth 0 rules) path is_dir

abbrev pub is_ignored : Verdict → Bool
is_ignored Ignored = true
is_ignored Included = false
is_ignored NoRule = false

-- the path has a slash at place k, and the directory before this slash is ignored
abbrev pub is_ignored_parent : (List ℕ → Bool → Verdict) → List ℕ → ℕ → Bool
is_ignored_parent verdict path k = nat_eq (slice_index path k) slash && is_ignored (verdict (take k path) true)

-- some directory above the path is ignored (gitignore(5), PATTERN FORMAT: a file can't be included again if a
-- parent directory of it is excluded)
abbrev pub has_ignored_parent : (List ℕ → Bool → Verdict) → List ℕ → Bool
has_ignored_parent verdict path = list_any (is_ignored_parent verdict path) (range_with_len 0 (length path))

-- no directory that ends before place n of the path is ignored
pub record IsClearTo (verdict : List ℕ → Bool → Verdict) (path : List ℕ) (n : ℕ) : Type 0 where
  pub within : n ≤ length path
  pub clear : (k : ℕ) → k < n → is_ignored_parent verdict path k ≡ false

abbrev pub verdict_word : Verdict → List ℕ
verdict_word Ignored = codes "ignored"
verdict_word Included = codes "included"
verdict_word NoRule = codes "none"

-- the word of a path, the first that holds: the path is bad, it is below an ignored directory, or its own verdict
abbrev pub path_word : (List ℕ → Bool → Verdict) → List ℕ → Bool → List ℕ
path_word verdict path is_dir =
    cond (is_bad_path path) (codes "bad")
    (cond (has_ignored_parent verdict path) (codes "below")
    (verdict_word (verdict path is_dir)))

-- the output line for a path: its word, a tab, the path as it was read, perhaps with a slash, written by `escape`, a line feed
abbrev pub checked_line : (List ℕ → List ℕ) → (List ℕ → Bool → Verdict) → List ℕ → List ℕ
checked_line escape verdict line =
    path_word verdict (path_of line) (is_dir_line line) ++ codes "\t" ++ escape line ++ codes "\n"

-- the lines for all paths of an input, whose paths end as `end` says
abbrev pub check_text_of : (List ℕ → List ℕ) → (List ℕ → Bool → Verdict) → PathEnd → List ℕ → List ℕ
check_text_of escape verdict end paths = flat_map (checked_line escape verdict) (input_paths_of end paths)

-- the lines for all paths of an input, by the rules of one file
abbrev pub text_by : (List ℕ → List ℕ) → List RuleModel → PathEnd → List ℕ → List ℕ
text_by escape rules end paths = check_text_of escape (file_verdict rules) end paths
