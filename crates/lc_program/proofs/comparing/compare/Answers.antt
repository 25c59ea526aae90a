use Rattle.std.proofs.{Common.{◌∙◌, ap, inl, inr, refl, subst₂}, lemmas.Result.IfOk-weaker}
use Rattle.lc_level.specs.Filters.{FiltersModel}
use Rattle.lc_program.specs.{Differences.{PrintsSides, compared_lists, compared_needs, names_for}, Systems.{SystemMay, may_of}}
use Rattle.lc_program.specs.WalkRequests.{columns_of, named_in}
use Rattle.lc_program.specs.declared.cause.Cause.TheVariants.{Memory}
use Rattle.lc_program.proofs.ComparedNeeds.{files_needed, sides_given}
use Rattle.lc_program.proofs.FiltersAsked.{emptied_by, memory_wanted, walk_prepared}
use Rattle.lc_program.proofs.Loading.{given_up}
use Rattle.lc_program.proofs.comparing.compare.Goals as goal

pub returns-in_err-sides : goal.returns-in_err-sides
returns-in_err-sides g c =
    let cause = c.in_err-sides.field-0.0 in
    inr (cause, c.in_err-sides.ensures, given_up c.from_residual.result cause c.from_residual.ensures.1, refl, refl)

pub returns-in_err-columns : goal.returns-in_err-columns
returns-in_err-columns g c =
    inl (
      c.in_ok-sides.sides,
      c.in_ok-sides.ensures,
      inr (
        Memory,
        inl (inr refl, refl),
        given_up c.from_residual-in_err-columns.result Memory c.from_residual-in_err-columns.ensures.1,
        refl,
      ),
    )

pub returns-in_err-named : goal.returns-in_err-named
returns-in_err-named g c =
    let cause = c.in_err-named.field-0.0 in
    inl (
      c.in_ok-sides.sides,
      c.in_ok-sides.ensures,
      inr (
        cause,
        c.in_err-named.ensures.unprepared,
        given_up c.from_residual-in_err-named.result cause c.from_residual-in_err-named.ensures.1,
        refl,
      ),
    )

pub returns-in_err-wanted : goal.returns-in_err-wanted
returns-in_err-wanted g c =
    let cause = c.in_err-wanted.field-0.0 in
    inl (
      c.in_ok-sides.sides,
      c.in_ok-sides.ensures,
      inr (
        cause,
        inr (inl (c.in_ok-named.list, c.in_ok-named.ensures.list, rw c.deref-3.ensures.value at c.in_err-wanted.ensures)),
        given_up c.from_residual-in_err-wanted.result cause c.from_residual-in_err-wanted.ensures.1,
        refl,
      ),
    )

-- memory may be refused to the line about the list, and to the paths when they are sorted
pub returns-in_err-emptied : goal.returns-in_err-emptied
returns-in_err-emptied g c =
    inl (
      c.in_ok-sides.sides,
      c.in_ok-sides.ensures,
      inr (
        Memory,
        inr (inl (
          c.in_ok-named.list,
          c.in_ok-named.ensures.list,
          memory_wanted _ c.args.asked.now.walk.only_from _ c.in_ok-named.list.items,
        )),
        given_up c.from_residual-in_err-emptied.result Memory c.from_residual-in_err-emptied.ensures.1,
        refl,
      ),
    )

pub returns-in_err-filters : goal.returns-in_err-filters
returns-in_err-filters g c =
    inl (
      c.in_ok-sides.sides,
      c.in_ok-sides.ensures,
      inr (
        Memory,
        inr (inl (
          c.in_ok-named.list,
          c.in_ok-named.ensures.list,
          memory_wanted _ c.args.asked.now.walk.only_from _ c.in_ok-named.list.items,
        )),
        given_up c.from_residual-in_err-filters.result Memory c.from_residual-in_err-filters.ensures.1,
        refl,
      ),
    )

pub print_sides-requires-clause-old_files : goal.print_sides-requires-clause-old_files
print_sides-requires-clause-old_files g c =
    IfOk-weaker c.both_sides-reports.result _ _
    (λ both has asked. (has (files_needed c.args.format c.args.asked.now c.compared_needs.result c.compared_needs.ensures asked)).0)
    c.both_sides-reports.ensures.files

pub print_sides-requires-clause-new_files : goal.print_sides-requires-clause-new_files
print_sides-requires-clause-new_files g c =
    IfOk-weaker c.both_sides-reports.result _ _
    (λ both has asked. (has (files_needed c.args.format c.args.asked.now c.compared_needs.result c.compared_needs.ensures asked)).1)
    c.both_sides-reports.ensures.files

pub returns : goal.returns
returns g c =
    let may : SystemMay = may_of g.Y.Tree.Tree g.Y.System c.args.system.now in
    let asked = c.args.asked.now in
    inl (
      c.in_ok-sides.sides,
      c.in_ok-sides.ensures,
      inl (
        c.options_of-options.result,
        c.prepared.new.input,
        walk_prepared may g.S.Source.may_give asked.walk asked.attributes.items (compared_lists asked)
            _ c.args.input.now _ c.in_ok-named.filters _ c.in_ok-named.list _ c.in_ok-wanted.wanted c.options_of-options.result
            (rw c.deref-2.ensures.value at c.in_ok-named.ensures.filters) c.in_ok-named.ensures.list c.in_ok-wanted.ensures
            c.deref-3.ensures.value c.compared_lists.ensures c.options_of-options.ensures c.in_ok-filters.ensures,
        (
          c.both_sides-reports.result,
          sides_given may g.S.Source.may_give asked.walk c.options_of-options.result c.in_ok-sides.sides c.deref-4.result.now _
              c.compared_needs.result (compared_needs asked) asked.old.now asked.new.now c.prepared.new.input
              c.both_sides-reports.result c.both_sides-reports.new.input
              (c.deref-4.ensures.value ∙ c.in_ok-columns.ensures ∙ ap columns_of c.deref.ensures.value) c.compared_needs.ensures
              c.both_sides-reports.ensures.gives,
          subst₂ (λ emptied names. PrintsSides g.O.Sink.may_take c.args.format asked emptied names c.both_sides-reports.result
              c.args.out.now c.print_sides.result c.print_sides.new.out)
              (c.remarks_of-remarks.ensures.emptied ∙ c.deref-5.ensures
              ∙ emptied_by asked.walk.only_from c.in_ok-emptied.emptied _ _ c.in_ok-emptied.ensures
              (ap (λ (f : FiltersModel). f.only) (c.options_of-options.ensures.filters ∙ c.in_ok-filters.ensures)))
              (c.remarks_of-remarks.ensures.named
              ∙ ap (names_for c.in_ok-sides.sides) (c.in_ok-named.ensures.named ∙ ap (named_in asked.walk) c.deref-2.ensures.value))
              c.print_sides.ensures,
        ),
      ),
    )
