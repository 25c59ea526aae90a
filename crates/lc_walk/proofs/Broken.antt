-- Rows of which none is Broken for any cause are whole.
use Rattle.std.proofs.Common.{◌≡◌, ℕ, List, slice_get, Some, refl}
use Rattle.lc_board.specs.declared.answers.Ended.{Ended}
use Rattle.lc_walk.specs.{Rows.{row_of, IsWhole}, ClosedWalks.AreWhole, Assembled.{IsBrokenBy, RefusesRows}, Links.RefusesTree}
use Rattle.lc_walk.specs.{Links.fault_of_tree, declared.broken_cause.BrokenCause.{BrokenCause, TheVariants.{Memory, TooManyDirs, TooDeep}}}
use Rattle.lc_walk.specs.declared.{row.Row.{Row, TheVariants.Broken}, report.tree_check.TreeFault.TreeFault}
use Rattle.lc_walk.specs.declared.report.tree_check.TreeFault.TheVariants as tree

abbrev pub NoneFor : BrokenCause → List (Ended Row) → Type 0
NoneFor cause rows = (i : ℕ) (e : Ended Row) → slice_get rows i ≡ Some e → IsBrokenBy cause (row_of e) → ⊥

whole_row : (r : Row) → (IsBrokenBy Memory r → ⊥) → (IsBrokenBy TooManyDirs r → ⊥) → (IsBrokenBy TooDeep r → ⊥) → IsWhole r
whole_row (Broken r) a b c = at r.cause a b c
  where
    at : (x : BrokenCause) → (x ≡ Memory → ⊥) → (x ≡ TooManyDirs → ⊥) → (x ≡ TooDeep → ⊥) → ⊥
    at Memory a b c = a refl
    at TooManyDirs a b c = b refl
    at TooDeep a b c = c refl
whole_row row a b c = tt

-- rows of which none is Broken for a cause are whole
pub whole_rows : (rows : List (Ended Row)) → NoneFor Memory rows → NoneFor TooManyDirs rows → NoneFor TooDeep rows → AreWhole rows
whole_rows rows a b c i e is = whole_row (row_of e) (a i e is) (b i e is) (c i e is)

-- a fault of the tree of such rows is one of the walk
pub refused_rows : (rows : List (Ended Row)) (f : TreeFault) → NoneFor Memory rows → NoneFor TooManyDirs rows → NoneFor TooDeep rows
    → RefusesTree rows f → RefusesRows rows (fault_of_tree f)
refused_rows rows tree.Memory a b c t = tt
refused_rows rows (tree.Torn n) a b c t = (whole_rows rows a b c, t)
