use Rattle.std.proofs.Common.{◌≡◌, ◌∙◌, ◌<◌, ◌≤◌, ◌+◌, ℕ, List, Some, get_or, length, slice_get, sym, ap, arith, subst, ⊎_elim}
use Rattle.std.proofs.lemmas.{Bool.cases_lt, Option.{get_or_from_slice_get, slice_get_within}}
use Rattle.lc_walk.specs.{Rows.row_of, Assembled.IsBrokenBy, declared.{broken_cause.BrokenCause.BrokenCause, row.Row.Row}}
use Rattle.lc_board.specs.declared.answers.Ended.{Ended}
use Rattle.lc_walk.proofs.report.assembly.some_broken.Goals as goal

module _ (rows : List (Ended Row)) (cause : BrokenCause) where
  -- none of the first rows is Broken for the cause
  abbrev NoneBefore : ℕ → Type 0
  NoneBefore n = (i : ℕ) (e : Ended Row) → i < n → slice_get rows i ≡ Some e → IsBrokenBy cause (row_of e) → ⊥

  -- nor is one row more
  none_more : (n : ℕ) (here : Ended Row) → NoneBefore n → here ≡ get_or rows n here → (IsBrokenBy cause (row_of here) → ⊥)
      → NoneBefore (n + 1)
  none_more n here none is other i e low at broken =
      ⊎_elim (λ before. none i e before at broken)
      (λ after. let same : n ≡ i = omega (arith, low, after) in
      other (subst (λ (x : Ended Row). IsBrokenBy cause (row_of x))
      (sym (is ∙ ap (λ k. get_or rows k here) same ∙ get_or_from_slice_get rows i e here at)) broken))
      (cases_lt i n)

  -- so none of all rows is
  none_of_all : (n : ℕ) → length rows ≤ n → NoneBefore n → (i : ℕ) (e : Ended Row) → slice_get rows i ≡ Some e
      → IsBrokenBy cause (row_of e) → ⊥
  none_of_all n all none i e at = none i e (omega (arith, all, slice_get_within rows i e at)) at

pub loop-at-preserved : goal.loop-at-preserved
loop-at-preserved c =
    none_more c.args.rows.now c.args.cause c.loop-at.at c.index-rows-at.result c.loop-at.invariant c.index-rows-at.is
    (λ broken. c.is_broken_by.ensures.other c.if-is_broken_by.false
    (subst (λ (r : Row). IsBrokenBy c.args.cause r) (sym c.row_of.ensures) broken))

pub returns-clause-none : goal.returns-clause-none
returns-clause-none c = λ never. none_of_all c.args.rows.now c.args.cause c.loop-at.at c.loop-at-test.false c.loop-at.invariant
