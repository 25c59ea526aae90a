use Rattle.std.proofs.Common.{refl}
use Rattle.lc_rules.specs.KnownMacros.{macros_for}
use Rattle.lc_rules.proofs.NamedLines.{none_matters}
use Rattle.lc_rules.proofs.line_table.LineTable.can_decide.Goals as goal

pub returns-else-may_name : goal.returns-else-may_name
returns-else-may_name c = λ e. none_matters c.args.self.now.lines (macros_for c.args.query) c.args.query.name.now
    (c.if-may_name.ensures refl) (c.may_name_some.ensures e)
