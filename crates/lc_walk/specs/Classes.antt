-- The sums over text files, and over binary files.
use Rattle.std.specs.Prelude.{Bool, true, false, not, if◌then◌else◌, List, filter}
use Rattle.lc_census.specs.declared.line_count.Eol.{Eol, TheVariants.Nul}
use Rattle.lc_walk.specs.{Sums.{IsInRange, no_files, plus}, TallyRows.{TallyRowModel, sums_of_rows}}
use Rattle.lc_walk.specs.declared.tally.{classes.ClassSums.ClassSums, sums.Sums.Sums}

abbrev pub is_nul : Eol → Bool
is_nul Nul = true
is_nul _ = false

-- the rows of binary files
abbrev pub is_binary : TallyRowModel → Bool
is_binary r = is_nul r.key.eol

abbrev pub text_sums : List TallyRowModel → Sums
text_sums rs = sums_of_rows (filter (λ r. not (is_binary r)) rs)

abbrev pub binary_sums : List TallyRowModel → Sums
binary_sums rs = sums_of_rows (filter is_binary rs)

-- the sums over text files and over binary files
abbrev pub classes_of : List TallyRowModel → ClassSums
classes_of rs = record { text = text_sums rs; binary = binary_sums rs }

-- those of the files of one row
abbrev pub one_class : TallyRowModel → ClassSums
one_class r = record {
  text = if is_binary r then no_files else r.sums;
  binary = if is_binary r then r.sums else no_files;
}

-- both sums of each class added up
abbrev pub both_classes : ClassSums → ClassSums → ClassSums
both_classes a b = record { text = plus a.text b.text; binary = plus a.binary b.binary }

-- each sum fits its type
pub record ClassesFit (c : ClassSums) : Type 0 where
  pub text : IsInRange c.text
  pub binary : IsInRange c.binary
