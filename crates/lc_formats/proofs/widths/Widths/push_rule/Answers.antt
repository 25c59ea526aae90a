use Rattle.std.proofs.Common.{◌++◌, ◌∙◌, ap, replicate, string_bytes}
use Rattle.lc_formats.specs.{BarCells.ruled, Columns.line_width}
use Rattle.lc_formats.proofs.Widened.{rule_pushed}
use Rattle.lc_formats.proofs.widths.Widths.push_rule.Goals as goal

pub widths-preserved : goal.widths-preserved
widths-preserved c =
    rule_pushed (string_bytes c.args.text.now) (string_bytes c.widths.text) (string_bytes c.push_copies.new.text)
    (string_bytes c.push_copies-in-Some.new.text) c.widths.widths.now c.in-Some.others.now c.in-Some.width.now
    (line_width (ruled c.args.bar c.args.self.now)) c.widths.invariant c.in-Some.ensures.cases.0 c.in_ok-push_copies.ensures
    (c.in_ok-push_copies-2.ensures ∙ ap (λ n. string_bytes c.push_copies.new.text ++ replicate n 45) c.gap_width.ensures)
