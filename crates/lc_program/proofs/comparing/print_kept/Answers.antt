use Rattle.std.proofs.Common.{◌∙◌, ap, inl, refl, string_bytes, subst₂}
use Rattle.lc_program.specs.{Differences.{IsChangesText, diff_answer}, WalkRequests.columns_of}
use Rattle.lc_program.proofs.{ChangesPrinted.keeps_asked, Printing.answer_written}
use Rattle.lc_program.proofs.comparing.print_kept.Goals as goal

pub returns : goal.returns
returns g c =
    inl (
      c.keep_changes.new.old,
      c.keep_changes.new.new,
      c.in_ok-text.text.items,
      string_bytes c.in_ok-told.told,
      c.in_ok-text.differ,
      keeps_asked c.args.asked.now c.args.sides.0 c.args.sides.1 c.deref.result.now c.deref-2.result.now c.change_options-options.result
          c.args.format c.keep.new.report c.keep-2.new.report c.keep_changes.new.old c.keep_changes.new.new c.deref.ensures.value
          c.deref-2.ensures.value c.change_options-options.ensures c.in_ok-keep.ensures.kept c.in_ok-keep-2.ensures.kept
          c.in_ok-keep_changes.ensures.kept,
      subst₂ (λ options columns. IsChangesText options columns c.keep_changes.new.old c.keep_changes.new.new c.in_ok-text.text.items
          c.in_ok-text.differ)
          c.change_options-options.ensures (c.deref-4.ensures.value ∙ c.in_ok-columns.ensures ∙ ap columns_of c.deref-3.ensures.value)
          c.in_ok-text.ensures,
      c.in_ok-told.ensures,
      answer_written g.O.Sink.may_take c.deref-5.result.now c.in_ok-text.text.items (string_bytes c.in_ok-told.told) _
          (diff_answer c.args.asked.now c.keep_changes.new.old c.keep_changes.new.new c.in_ok-text.differ) c.answer_of.result c.args.out.now
          c.print_answer.result c.print_answer.new.out c.deref-5.ensures.value c.answer_of.ensures refl c.print_answer.ensures,
    )
