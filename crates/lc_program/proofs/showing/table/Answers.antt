use Rattle.lc_program.proofs.Stopping.{text_stops}
use Rattle.lc_program.specs.ReportTexts.{showing_of}
use Rattle.lc_program.proofs.showing.table.Goals as goal

pub returns-in_err-print : goal.returns-in_err-print
returns-in_err-print g c =
    text_stops g.O.Sink.may_take (showing_of c.args.shown) c.args.report.now c.part_text.new.report c.in_ok-made.made.text.items _
    c.deref.result.now c.in_err-print.field-0.0 c.from_residual-in_err-print.result c.args.out.now c.print.new.out c.in_ok-made.ensures
    c.deref.ensures.value c.in_err-print.ensures.answers c.from_residual-in_err-print.ensures.1
