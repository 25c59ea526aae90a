-- The numbers of reports, added one report after another.
use Rattle.std.proofs.{Common.{◌≡◌, ◌∙◌, ◌+◌, List, ◌∷◌, sym, ap, subst, arith}, lemmas.List.{Concat.flat_map-cons, Sums.sum_by-cons}}
use Rattle.lc_reports.specs.{Gathered.{NumbersFit, numbers_of, numbers_with}, Joined.{all_binary, all_rows, all_text, all_totals}}
use Rattle.lc_reports.specs.declared.gathered.Numbers.{Numbers}
use Rattle.lc_walk.proofs.RowSums.{same_sums, sums_of_both}
use Rattle.lc_walk.specs.{Sums.{IsInRange, plus}, TallyRows.sums_of_rows, declared.{report.Report.Report, tally.sums.Sums.Sums}}

abbrev together : Numbers → Numbers → Numbers
together m n = record {
  rows = plus m.rows n.rows;
  totals = plus m.totals n.totals;
  text = plus m.text n.text;
  binary = plus m.binary n.binary;
  directories = m.directories + n.directories;
  entries = m.entries + n.entries;
}

-- the numbers so far, and those of the other reports, are those of all
abbrev pub AddUpTo : Numbers → List Report → List Report → Type 0
AddUpTo n rest rs = together n (numbers_of rest) ≡ numbers_of rs

pub same_numbers : (a b : Numbers) → a.rows ≡ b.rows → a.totals ≡ b.totals → a.text ≡ b.text → a.binary ≡ b.binary
    → a.directories ≡ b.directories → a.entries ≡ b.entries → a ≡ b
same_numbers a b r t x n d e = λ i. record { rows = r i; totals = t i; text = x i; binary = n i; directories = d i; entries = e i }

pub totals_cons : (r : Report) (rs : List Report) → all_totals (r ∷ rs) ≡ plus r.totals (all_totals rs)
totals_cons r rs = same_sums _ _ (sum_by-cons (λ (x : Report). x.totals.files) r rs) (sum_by-cons (λ (x : Report). x.totals.lines) r rs)
    (sum_by-cons (λ (x : Report). x.totals.blank) r rs) (sum_by-cons (λ (x : Report). x.totals.bytes) r rs)

pub text_cons : (r : Report) (rs : List Report) → all_text (r ∷ rs) ≡ plus r.classes.text (all_text rs)
text_cons r rs = same_sums _ _ (sum_by-cons (λ (x : Report). x.classes.text.files) r rs)
    (sum_by-cons (λ (x : Report). x.classes.text.lines) r rs) (sum_by-cons (λ (x : Report). x.classes.text.blank) r rs)
    (sum_by-cons (λ (x : Report). x.classes.text.bytes) r rs)

pub binary_cons : (r : Report) (rs : List Report) → all_binary (r ∷ rs) ≡ plus r.classes.binary (all_binary rs)
binary_cons r rs = same_sums _ _ (sum_by-cons (λ (x : Report). x.classes.binary.files) r rs)
    (sum_by-cons (λ (x : Report). x.classes.binary.lines) r rs) (sum_by-cons (λ (x : Report). x.classes.binary.blank) r rs)
    (sum_by-cons (λ (x : Report). x.classes.binary.bytes) r rs)

rows_cons : (r : Report) (rs : List Report)
    → sums_of_rows (all_rows (r ∷ rs)) ≡ plus (sums_of_rows r.rows.items) (sums_of_rows (all_rows rs))
rows_cons r rs = ap sums_of_rows (flat_map-cons (λ (x : Report). x.rows.items) r rs) ∙ sums_of_both r.rows.items (all_rows rs)

-- sums so far and those of a report, and those of the other reports
in_turn : (a b rest all : Sums) → all ≡ plus b rest → plus (plus a b) rest ≡ plus a all
in_turn a b rest all is =
    same_sums (plus (plus a b) rest) (plus a (plus b rest)) (omega arith) (omega arith) (omega arith) (omega arith) ∙ ap (plus a) (sym is)

pub one_more : (n : Numbers) (r : Report) (rest rs : List Report) → AddUpTo n (r ∷ rest) rs → AddUpTo (numbers_with n r) rest rs
one_more n r rest rs so_far =
    let directories = sum_by-cons (λ (x : Report). x.directories) r rest in
    let entries = sum_by-cons (λ (x : Report). x.entries) r rest in
    same_numbers (together (numbers_with n r) (numbers_of rest)) (together n (numbers_of (r ∷ rest)))
    (in_turn n.rows (sums_of_rows r.rows.items) (sums_of_rows (all_rows rest)) _ (rows_cons r rest))
    (in_turn n.totals r.totals (all_totals rest) _ (totals_cons r rest))
    (in_turn n.text r.classes.text (all_text rest) _ (text_cons r rest))
    (in_turn n.binary r.classes.binary (all_binary rest) _ (binary_cons r rest)) (omega arith) (omega arith)
    ∙ so_far

front_fits : (a b : Sums) → IsInRange (plus a b) → IsInRange a
front_fits a b fits = record {
  files = let l = fits.files in omega arith;
  lines = let l = fits.lines in omega arith;
  blank = let l = fits.blank in omega arith;
  bytes = let l = fits.bytes in omega arith;
}

-- where the numbers of all fit, those so far and of one report more do
pub one_more_fits : (n : Numbers) (r : Report) (rest rs : List Report) → AddUpTo n (r ∷ rest) rs → NumbersFit (numbers_of rs)
    → NumbersFit (numbers_with n r)
one_more_fits n r rest rs so_far fits =
    let all = subst NumbersFit (sym (one_more n r rest rs so_far)) fits in
    let more = numbers_with n r in record {
      rows = front_fits more.rows (sums_of_rows (all_rows rest)) all.rows;
      totals = front_fits more.totals (all_totals rest) all.totals;
      text = front_fits more.text (all_text rest) all.text;
      binary = front_fits more.binary (all_binary rest) all.binary;
      directories = let l = all.directories in omega arith;
      entries = let l = all.entries in omega arith;
    }
