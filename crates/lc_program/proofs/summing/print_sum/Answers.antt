use Rattle.std.proofs.Common.{◌∙◌, inl, refl, string_bytes, subst}
use Rattle.lc_program.proofs.Printing.{answer_written, same_showing}
use Rattle.lc_program.specs.{Replies.printed_answer, ReportTexts.{IsPrinted, Showing}}
use Rattle.lc_program.proofs.summing.print_sum.Goals as goal

pub returns : goal.returns
returns g c =
    let refused = string_bytes c.in_ok-made.made.refused in
    inl (
      c.part_text.new.report,
      refused,
      c.in_ok-made.made.text.items,
      subst (λ (s : Showing). IsPrinted s c.args.sum c.in_ok-made.made.text.items refused c.part_text.new.report)
          (same_showing c.deref-2.result.now _ c.deref-3.result.now _ c.deref.result.now _ c.options.result _ c.args.columns.now _
          c.path_end.result _ (c.deref-2.ensures.value ∙ c.in_ok-heading.ensures.title)
          (c.deref-3.ensures.value ∙ c.in_ok-heading.ensures.chosen) c.deref.ensures.value c.options.ensures refl c.path_end.ensures)
          c.in_ok-made.ensures,
      answer_written g.O.Sink.may_take c.deref-4.result.now c.in_ok-made.made.text.items (string_bytes c.in_ok-told.told) _
          (printed_answer c.args.asked.now.fail_if_any c.part_text.new.report refused) c.answer.result c.args.out.now c.print_answer.result
          c.print_answer.new.out c.deref-4.ensures.value c.answer.ensures c.in_ok-told.ensures c.print_answer.ensures,
    )
