use Rattle.std.proofs.Common.{List, subst, sym, ◌∙◌}
use Rattle.json.specs.Token.{Token}
use Rattle.lc_reading.specs.{Objects.TakesObject, Texts.IsReportText}
use Rattle.lc_reading.proofs.TextsRead.{if_ok, none_left, report_text}
use Rattle.lc_reading.proofs.reading.report_in.Goals as goal

pub returns : goal.returns
returns c =
    if_ok _ (IsReportText c.args.attributes.now c.args.text.now) c.report_of.result
    (λ r made. report_text c.args.attributes.now c.args.text.now c.in_ok-object.object c.read_object.new.reader r c.in_ok-check_json.ensures
    (subst (λ (ts : List Token). TakesObject c.args.attributes.now c.in_ok-object.object ts c.read_object.new.reader)
    c.in_ok-reader.ensures.ok
    c.in_ok-object.ensures)
    (none_left _ _ c.next.result (sym c.is_some.ensures ∙ c.if-is_some.false) c.next.ensures.value).0 made)
    c.report_of.ensures
