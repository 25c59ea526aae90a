use Rattle.std.proofs.Common.{◌∙◌, ap, inl, inr, refl, sym}
use Rattle.lc_program.proofs.Loading.{given_up}
use Rattle.lc_program.specs.Requests.{explained_reply}
use Rattle.lc_program.specs.declared.cause.Cause.TheVariants.{Memory}
use Rattle.lc_program.proofs.explaining.explain_asked.Goals as goal

pub returns-in_err-why : goal.returns-in_err-why
returns-in_err-why g c =
    inr (
      c.in_err-why.field-0.0,
      inl c.in_err-why.ensures,
      given_up c.from_residual.result c.in_err-why.field-0.0 c.from_residual.ensures.1,
      refl,
      refl,
    )

pub returns-in_err-clean : goal.returns-in_err-clean
returns-in_err-clean g c =
    inr (
      Memory,
      inl (inr refl),
      given_up c.from_residual-in_err-clean.result Memory c.from_residual-in_err-clean.ensures.1,
      refl,
      refl,
    )

pub returns-in_err-filters : goal.returns-in_err-filters
returns-in_err-filters g c =
    inr (
      c.in_err-filters.field-0.0,
      inr c.in_err-filters.ensures,
      given_up c.from_residual-in_err-filters.result c.in_err-filters.field-0.0 c.from_residual-in_err-filters.ensures.1,
      refl,
      refl,
    )

pub returns-in_err-tree : goal.returns-in_err-tree
returns-in_err-tree g c =
    inr (
      Memory,
      inl (inr refl),
      given_up c.from_residual-in_err-tree.result Memory c.from_residual-in_err-tree.ensures.1,
      refl,
      refl,
    )

pub returns-in_err-explain_paths : goal.returns-in_err-explain_paths
returns-in_err-explain_paths g c =
    inl (
      c.in_ok-why.why,
      c.in_ok-why.ensures,
      (
        c.in_ok-filters.filters,
        c.in_ok-filters.ensures,
        (
          c.options_of-options.result,
          c.explain_paths.result,
          c.options_of-options.ensures.filters,
          c.options_of-options.ensures.style,
          given_up c.from_residual-in_err-explain_paths.result c.in_err-explain_paths.field-0.0
              c.from_residual-in_err-explain_paths.ensures.1
              ∙ sym (ap (explained_reply c.args.asked.now c.in_ok-why.why) c.in_err-explain_paths.was),
          rw c.in_ok-tree.ensures at c.explain_paths.ensures,
        ),
      ),
    )
