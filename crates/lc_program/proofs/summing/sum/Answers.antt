use Rattle.std.proofs.Common.{◌∙◌, ap, inl, subst}
use Rattle.lc_program.specs.{Sums.PrintsParts, WalkRequests.columns_of}
use Rattle.lc_program.proofs.summing.sum.Goals as goal

pub returns : goal.returns
returns g c =
    inl (
      c.in_ok-parts.parts,
      rw (c.deref-2.ensures.value ∙ c.in_ok-columns.ensures ∙ ap columns_of c.deref.ensures.value, c.deref-3.ensures.value) at
          c.in_ok-parts.ensures,
      subst (λ columns. PrintsParts g.O.Sink.may_take c.args.format c.args.asked.now columns c.in_ok-parts.parts.items c.args.out.now
          c.sum_parts.result c.sum_parts.new.out)
          (c.deref-4.ensures.value ∙ c.in_ok-columns.ensures ∙ ap columns_of c.deref.ensures.value) c.sum_parts.ensures,
    )
