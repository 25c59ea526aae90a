use Rattle.std.proofs.Common.{◌≡◌, ◌∙◌, ◌||◌, Bool, true, false, cond, Option, Some, None, ap, inl, inr, refl, string_bytes, subst₂}
use Rattle.std.proofs.Common.{unwrap_or}
use Rattle.lc_arguments.specs.{Combinations.draws_boxes, TableWords.{columns_in, lists_files, output_in}}
use Rattle.lc_arguments.specs.declared.table.TableRequest.{TableRequest}
use Rattle.lc_level.specs.Filters.{FiltersModel}
use Rattle.lc_program.specs.{Counts.{AreCountLines, lists_of}, Replies.printed_answer, Systems.{SystemMay, may_of}, WalkRequests.named_in}
use Rattle.lc_program.specs.declared.cause.Cause.TheVariants.{Memory}
use Rattle.lc_sheet.specs.{Keys.are_of_files, declared.table_options.{Format.{Format, TheVariants.Table}, Output.Output}}
use Rattle.lc_sheet.specs.declared.table_options.Output.TheVariants.{Text, Picture, Tree, Paths}
use Rattle.lc_walk.specs.{AllColumns.all_columns, declared.options.ReportLists.ReportLists}
use Rattle.lc_program.proofs.{FiltersAsked.{emptied_by, memory_wanted, walk_prepared}, Loading.given_up, Printing.answer_written}
use Rattle.lc_program.proofs.counting.count_apart.Goals as goal

pub returns-in_err-named : goal.returns-in_err-named
returns-in_err-named g c =
    let cause = c.in_err-named.field-0.0 in
    inr (cause, c.in_err-named.ensures.unprepared, given_up c.from_residual.result cause c.from_residual.ensures.1, refl)

pub returns-in_err-wanted : goal.returns-in_err-wanted
returns-in_err-wanted g c =
    let cause = c.in_err-wanted.field-0.0 in
    inr (
      cause,
      inr (inl (c.in_ok-named.list, c.in_ok-named.ensures.list, rw c.deref-2.ensures.value at c.in_err-wanted.ensures)),
      given_up c.from_residual-in_err-wanted.result cause c.from_residual-in_err-wanted.ensures.1,
      refl,
    )

-- memory may be refused to the line about the list, and to the paths when they are sorted
pub returns-in_err-emptied : goal.returns-in_err-emptied
returns-in_err-emptied g c =
    inr (
      Memory,
      inr (inl (
        c.in_ok-named.list,
        c.in_ok-named.ensures.list,
        memory_wanted _ c.args.asked.now.walk.only_from _ c.in_ok-named.list.items,
      )),
      given_up c.from_residual-in_err-emptied.result Memory c.from_residual-in_err-emptied.ensures.1,
      refl,
    )

pub returns-in_err-filters : goal.returns-in_err-filters
returns-in_err-filters g c =
    inr (
      Memory,
      inr (inl (
        c.in_ok-named.list,
        c.in_ok-named.ensures.list,
        memory_wanted _ c.args.asked.now.walk.only_from _ c.in_ok-named.list.items,
      )),
      given_up c.from_residual-in_err-filters.result Memory c.from_residual-in_err-filters.ensures.1,
      refl,
    )

-- rows by directories or attributes need the list of files, and so does a tree
listed : (a d : Bool) (other : Format) (t : TableRequest) → are_of_files (columns_in (output_in other t) all_columns t) ≡ true
    → (a || are_of_files (unwrap_or t.by all_columns) || draws_boxes t.format || d) ≡ true
listed true d other t is = refl
listed false d other t is = at t.format is
  where
    rows : Bool
    rows = are_of_files (unwrap_or t.by all_columns)

    drawn : (b : Bool) → (b || true || d) ≡ true
    drawn true = refl
    drawn false = refl

    at : (f : Option Output) → are_of_files (columns_in (unwrap_or f (Text (cond t.share Table other))) all_columns t) ≡ true
        → (rows || draws_boxes f || d) ≡ true
    at None is = ap (λ x. x || draws_boxes None || d) is
    at (Some (Text format)) is = ap (λ x. x || draws_boxes (Some (Text format)) || d) is
    at (Some Picture) is = drawn rows
    at (Some Tree) is = drawn rows
    at (Some Paths) is = ap (λ x. x || draws_boxes (Some Paths) || d) is

pub found_text-requires-clause-files : goal.found_text-requires-clause-files
found_text-requires-clause-files g c κs within by_directory =
    ap (λ (lists : ReportLists). lists.files) (c.options_of-options.ensures.lists ∙ c.lists_of.ensures)
    ∙ listed (lists_files c.args.asked.now.table) _ c.format.result c.args.asked.now.table by_directory

-- nothing was found, or an allocation failed
pub returns-in_err-printed : goal.returns-in_err-printed
returns-in_err-printed g c =
    let may : SystemMay = may_of g.Y.Tree.Tree g.Y.System c.args.system.now in
    let asked = c.args.asked.now in
    let cause = c.in_err-printed.field-0.0 in
    inl (
      c.options_of-options.result,
      walk_prepared may g.S.Source.may_give asked.walk asked.attributes.items (lists_of asked)
          _ c.args.input.now _ c.in_ok-named.filters _ c.in_ok-named.list _ c.in_ok-wanted.wanted c.options_of-options.result
          (rw c.deref.ensures.value at c.in_ok-named.ensures.filters) c.in_ok-named.ensures.list c.in_ok-wanted.ensures
          c.deref-2.ensures.value c.lists_of.ensures c.options_of-options.ensures c.in_ok-filters.ensures,
      inr (
        cause,
        c.in_err-printed.ensures.none,
        given_up c.from_residual-in_err-printed.result cause c.from_residual-in_err-printed.ensures.1,
        refl,
      ),
    )

pub returns-in_err-told : goal.returns-in_err-told
returns-in_err-told g c =
    let may : SystemMay = may_of g.Y.Tree.Tree g.Y.System c.args.system.now in
    let asked = c.args.asked.now in
    inl (
      c.options_of-options.result,
      walk_prepared may g.S.Source.may_give asked.walk asked.attributes.items (lists_of asked)
          _ c.args.input.now _ c.in_ok-named.filters _ c.in_ok-named.list _ c.in_ok-wanted.wanted c.options_of-options.result
          (rw c.deref.ensures.value at c.in_ok-named.ensures.filters) c.in_ok-named.ensures.list c.in_ok-wanted.ensures
          c.deref-2.ensures.value c.lists_of.ensures c.options_of-options.ensures c.in_ok-filters.ensures,
      inr (
        Memory,
        inr refl,
        given_up c.from_residual-in_err-told.result Memory c.from_residual-in_err-told.ensures.1,
        refl,
      ),
    )

pub returns : goal.returns
returns g c =
    let may : SystemMay = may_of g.Y.Tree.Tree g.Y.System c.args.system.now in
    let asked = c.args.asked.now in
    inl (
      c.options_of-options.result,
      walk_prepared may g.S.Source.may_give asked.walk asked.attributes.items (lists_of asked)
          _ c.args.input.now _ c.in_ok-named.filters _ c.in_ok-named.list _ c.in_ok-wanted.wanted c.options_of-options.result
          (rw c.deref.ensures.value at c.in_ok-named.ensures.filters) c.in_ok-named.ensures.list c.in_ok-wanted.ensures
          c.deref-2.ensures.value c.lists_of.ensures c.options_of-options.ensures c.in_ok-filters.ensures,
      inl (
        c.in_ok-printed.printed.report,
        string_bytes c.in_ok-printed.printed.refused,
        c.in_ok-printed.text.items,
        string_bytes c.in_ok-told.told,
        rw c.format.ensures at c.in_ok-printed.ensures.shown,
        subst₂ (λ emptied names. AreCountLines may c.args.terminals asked emptied names c.in_ok-printed.printed.report
            (string_bytes c.in_ok-printed.printed.refused) (string_bytes c.in_ok-told.told))
            (c.deref-3.ensures ∙ emptied_by asked.walk.only_from c.in_ok-emptied.emptied _ _ c.in_ok-emptied.ensures
            (ap (λ (f : FiltersModel). f.only) (c.options_of-options.ensures.filters ∙ c.in_ok-filters.ensures)))
            (c.in_ok-named.ensures.named ∙ ap (named_in asked.walk) c.deref.ensures.value) c.in_ok-told.ensures,
        answer_written g.O.Sink.may_take c.deref-4.result.now c.in_ok-printed.text.items (string_bytes c.in_ok-told.told) _
            (printed_answer asked.fail_if_any c.in_ok-printed.printed.report (string_bytes c.in_ok-printed.printed.refused)) c.answer.result
            c.args.out.now c.print_answer.result c.print_answer.new.out c.deref-4.ensures.value c.answer.ensures refl
            c.print_answer.ensures,
      ),
    )
