use Rattle.std.proofs.Common.{refl, ◌∙◌, sym, ap, map, take, is_some}
use Rattle.lc_rules.specs.{Models.macro_model, Decision.macro_of, LineNames.lines_name}
use Rattle.lc_rules.proofs.{LastMacro.macros-more, NamedLines.no_macro_more}
use Rattle.lc_rules.proofs.line_table.LineTable.may_name_some_in.Goals as goal

pub loop-found-preserved : goal.loop-found-preserved
loop-found-preserved c = λ n e.
    let more = macros-more c.args.defined.now c.loop-found.found-index c.found-item.result c.loop-found-test.true c.found-item.is in
    no_macro_more c.args.self.now.lines (map macro_model (take c.loop-found.found-index c.args.defined.now))
    (macro_model c.found-item.result) n c.loop-found.invariant
    (ap (lines_name c.args.self.now.lines) (sym c.as_slice.ensures.value) ∙ c.if-may_name.ensures refl)
    (ap (λ l. is_some (macro_of l n)) (sym more) ∙ e)
