use Rattle.std.proofs.{Common.{◌∙◌, sym, ap}, lemmas.{Bool.Decides.Decides-eqb, Slice.Eq.slice_eq-Decides}}
use Rattle.lc_walk.specs.RowViews.{ChildModel}
use Rattle.lc_level.proofs.PathNames.{one_name}
use Rattle.lc_walk.proofs.report.tree_check.is_child_path.Goals as goal

pub returns-in-Some-clause-other : goal.returns-in-Some-clause-other
returns-in-Some-clause-other c = λ no at.
    absurd (cc (
      no,
      (slice_eq-Decides Decides-eqb _ _ _ c.eq.ensures).1 (one_name c.args.directory.now _ _ (sym c.in-Some.ensures ∙ at)
          ∙ ap (λ (m : ChildModel). m.name) (sym c.child.view_is) ∙ sym c.as_slice.ensures.value),
    ))
