-- The scan of all bytes tells the one cutting of them.
pub mod Ends
pub mod Blank
pub mod Rest
use Rattle.std.proofs.Common.{◌≡◌, ℕ, suc, eqb, ◌+◌, ◌-◌, ◌⊎◌, inl, inr, Bool, true, false, not, ◌&&◌, ◌||◌, List, [], ◌∷◌, length, refl}
use Rattle.std.proofs.{Common.{sym, ap, ◌∙◌, arith, zero-add, eqb-true}, lemmas.{List.Sums.sum_by-cons, Bool.cases_Bool}}
use Rattle.std.specs.List.{list_any, count_by}
use Rattle.lc_census.specs.{declared.{scan.Scan.Scan, line_count.Count.Count}, Bytes.{is_nul, one_if}, Scan.{after, after_all, start}}
use Rattle.lc_census.specs.{Cutting.{End, lf, cr_lf, cr, Line, is_empty, same_end}, Census.{is_blank_text, class_of, has_end, count_of}}
use Rattle.lc_census.specs.{Fed.rest_after, TheCutting.cut}
use Rattle.lc_census.proofs.Tells.{Ends.{passing, ends_of, lf_run, cr_run, crlf_run}, Blank.{blank_whole, blank_run}}
use Rattle.lc_census.proofs.Tells.Rest.{after_end, goes, goes_run, is_blank_after, rest_run}

-- NUL
pub nul_run : (s : Scan) (xs : List ℕ) → (after_all s xs).nul ≡ s.nul + passing is_nul xs
nul_run s [] = omega arith
nul_run s (x ∷ xs) = omega (arith, nul_run (after s x) xs)

-- the words of std
passing_is : {X : Type 0} (p : X → Bool) (xs : List X) → passing p xs ≡ count_by p xs
passing_is p [] = refl
passing_is p (x ∷ xs) = ap (λ n. one_if (p x) + n) (passing_is p xs) ∙ sym (sum_by-cons (λ y. one_if (p y)) x xs)

abbrev pub some : ℕ → Bool
some n = not (eqb n 0)

not_zero : (n : ℕ) → not (eqb (1 + n) 0) ≡ true
not_zero n = go (cases_Bool (eqb (1 + n) 0))
  where
    go : (eqb (1 + n) 0 ≡ true) ⊎ (eqb (1 + n) 0 ≡ false) → not (eqb (1 + n) 0) ≡ true
    go (inl e) = let no : ⊥ = omega (arith, eqb-true (1 + n) 0 e) in absurd no
    go (inr e) = ap not e

any_is : {X : Type 0} (p : X → Bool) (xs : List X) → some (passing p xs) ≡ list_any p xs
any_is p [] = refl
any_is p (x ∷ xs) = go (p x) (any_is p xs)
  where
    go : (b : Bool) → some (passing p xs) ≡ list_any p xs → some (one_if b + passing p xs) ≡ (b || list_any p xs)
    go true h = not_zero (passing p xs)
    go false h = ap some (zero-add (passing p xs)) ∙ h

each_end : (ls : List Line) → length ls ≡ ends_of lf ls + (ends_of cr_lf ls + ends_of cr ls)
each_end [] = refl
each_end (l ∷ ls) = go l.end (each_end ls)
  where
    go : (e : End) → length ls ≡ ends_of lf ls + (ends_of cr_lf ls + ends_of cr ls)
        → suc (length ls) ≡ (one_if (same_end lf e) + ends_of lf ls) + ((one_if (same_end cr_lf e) + ends_of cr_lf ls) + (one_if
        (same_end cr e) + ends_of cr ls))
    go lf here = omega arith
    go cr_lf here = omega arith
    go cr here = omega arith

-- what a scan, the mark of a rest and a length say
abbrev pub told : Scan → Bool → ℕ → Count
told s b n = record {
  lines = s.lf + (s.cr - s.crlf) + one_if b;
  blank = s.blank + one_if (b && s.is_blank);
  bytes = n;
  eol = class_of (some s.nul) (some (s.lf - s.crlf)) (some s.crlf) (some (s.cr - s.crlf));
}

module _ (xs : List ℕ) where
  lf_is : (after_all start xs).lf ≡ ends_of lf (cut xs).lines + ends_of cr_lf (cut xs).lines
  lf_is = lf_run start xs ∙ zero-add _

  cr_is : (after_all start xs).cr ≡ ends_of cr (cut xs).lines + ends_of cr_lf (cut xs).lines
  cr_is = cr_run start xs ∙ zero-add _

  crlf_is : (after_all start xs).crlf ≡ ends_of cr_lf (cut xs).lines
  crlf_is = omega (arith, crlf_run start xs)

  goes_is : rest_after false xs ≡ not (is_empty (cut xs).rest)
  goes_is = goes_run false xs ∙ sym (after_end goes false (cut xs).lines (cut xs).rest)

  blank_is : (after_all start xs).is_blank ≡ is_blank_text (cut xs).rest
  blank_is = rest_run start xs ∙ sym (after_end is_blank_after true (cut xs).lines (cut xs).rest)

  blanks_are : (after_all start xs).blank ≡ count_by (λ l. is_blank_text l.text) (cut xs).lines
  blanks_are = blank_run start xs ∙ zero-add _ ∙ blank_whole (cut xs).lines
      ∙ passing_is (λ l. is_blank_text l.text) (cut xs).lines

  nul_is : some (after_all start xs).nul ≡ list_any is_nul xs
  nul_is = ap some (nul_run start xs ∙ zero-add _) ∙ any_is is_nul xs

  lines_are : (after_all start xs).lf + ((after_all start xs).cr - (after_all start xs).crlf) ≡ length (cut xs).lines
  lines_are = omega (arith, lf_is, cr_is, crlf_is, each_end (cut xs).lines)

  lfs_are : some ((after_all start xs).lf - (after_all start xs).crlf) ≡ has_end lf (cut xs).lines
  lfs_are = let e : (after_all start xs).lf - (after_all start xs).crlf ≡ ends_of lf (cut xs).lines = omega (arith, lf_is, crlf_is) in
      ap some e ∙ any_is (λ l. same_end lf l.end) (cut xs).lines

  crs_are : some ((after_all start xs).cr - (after_all start xs).crlf) ≡ has_end cr (cut xs).lines
  crs_are = let e : (after_all start xs).cr - (after_all start xs).crlf ≡ ends_of cr (cut xs).lines = omega (arith, cr_is, crlf_is) in
      ap some e ∙ any_is (λ l. same_end cr l.end) (cut xs).lines

  crlfs_are : some (after_all start xs).crlf ≡ has_end cr_lf (cut xs).lines
  crlfs_are = ap some crlf_is ∙ any_is (λ l. same_end cr_lf l.end) (cut xs).lines

  -- the scan tells the census
  pub scan_tells : told (after_all start xs) (rest_after false xs) (length xs) ≡ count_of xs (cut xs)
  scan_tells = λ t. record {
    lines = lines_are t + one_if (goes_is t);
    blank = blanks_are t + one_if (goes_is t && blank_is t);
    bytes = length xs;
    eol = class_of (nul_is t) (lfs_are t) (crlfs_are t) (crs_are t);
  }
