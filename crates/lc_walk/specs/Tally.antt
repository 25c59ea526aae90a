-- The tally of a list of counted files.
use Rattle.std.specs.{Prelude.{◌≡◌, ℕ, ◌<◌, List, Option, length, All}, List.{filter, sum_by}}
use Rattle.lc_walk.specs.{Key.{Key, same_key}, Sums.{plus, IsModest}, TallyRows.{TallyRowModel, sums_of_rows, rows_with, IsInOrder, Gains}}
use Rattle.lc_walk.specs.declared.tally.sums.Sums.{Sums}
use Rattle.lc_rules.specs.declared.states.TextState.{TextState}
use Rattle.lc_census.specs.declared.line_count.Count.{Count}

-- what a tally needs of a counted file
pub record CountedFile : Type 0 where
  pub extension : Option (List ℕ)
  pub text : TextState
  pub count : Count

-- the counted file with this extension, text state and census
abbrev pub counted : Option (List ℕ) → TextState → Count → CountedFile
counted e t c = record { extension = e; text = t; count = c }

-- the key of the row that a file belongs to
abbrev pub key_of : CountedFile → Key
key_of f = record { extension = f.extension; text = f.text; eol = f.count.eol }

-- the number of files, and the sums of their lines, blank lines and bytes
abbrev pub sums_of_files : List CountedFile → Sums
sums_of_files fs = record {
  files = length fs;
  lines = sum_by (λ f. f.count.lines) fs;
  blank = sum_by (λ f. f.count.blank) fs;
  bytes = sum_by (λ f. f.count.bytes) fs;
}

-- the files that have this key
abbrev pub files_with : Key → List CountedFile → List CountedFile
files_with k fs = filter (λ f. same_key k (key_of f)) fs

-- the rows are one for each key that some file has, with the sums over the files of this key, in the order of keys
pub record IsTally (fs : List CountedFile) (rs : List TallyRowModel) : Type 0 where
  pub sums : (k : Key) → sums_of_rows (rows_with k rs) ≡ sums_of_files (files_with k fs)
  pub filled : All (λ r. 0 < r.sums.files) rs
  pub order : IsInOrder rs

-- what a tally consists of: rows in any order, of which several may have one key, and the sums over all files
pub record TallyModel : Type 0 where
  pub rows : List TallyRowModel
  pub totals : Sums

-- the tally represents these files: the rows of each key have the sums over the files of this key, each row has a file, and the totals are
-- the sums over all files
pub record StandsFor (t : TallyModel) (fs : List CountedFile) : Type 0 where
  pub sums : (k : Key) → sums_of_rows (rows_with k t.rows) ≡ sums_of_files (files_with k fs)
  pub filled : All (λ r. 0 < r.sums.files) t.rows
  pub totals : t.totals ≡ sums_of_files fs

-- what is true of every tally
pub record TallyHolds (t : TallyModel) : Type 0 where
  pub totals : t.totals ≡ sums_of_rows t.rows
  pub modest : IsModest t.totals

-- from the old tally to the new one, the sums of one key and the totals gain s
pub record Grows (old new : TallyModel) (k : Key) (s : Sums) : Type 0 where
  pub rows : Gains old.rows new.rows k s
  pub totals : new.totals ≡ plus old.totals s
