use Rattle.std.proofs.Common.{refl, subst, List}
use Rattle.lc_rules.specs.{Attributes.MacroModel, KnownMacros.defined_in, LineNames.NameNone}
use Rattle.lc_rules.proofs.NamedLines.{none_named}
use Rattle.lc_rules.proofs.line_table.LineTable.may_name_some.Goals as goal

pub returns : goal.returns
returns c = λ e.
    let lines = c.args.self.now.lines in
    let macros = c.args.macros in
    none_named lines (defined_in macros.lowest) (defined_in macros.top) (defined_in macros.info) (c.if-may_name.ensures refl)
    (subst (λ (ms : List MacroModel). NameNone lines ms) c.macros_in.ensures (c.if-may_name_some_in.ensures refl))
    (subst (λ (ms : List MacroModel). NameNone lines ms) c.macros_in-2.ensures (c.if-may_name_some_in-2.ensures refl))
    (subst (λ (ms : List MacroModel). NameNone lines ms) c.macros_in-3.ensures (c.may_name_some_in-3.ensures e))
