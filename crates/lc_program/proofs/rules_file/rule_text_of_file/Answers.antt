use Rattle.lc_program.proofs.RulesLoaded.{loads_file}
use Rattle.lc_program.proofs.rules_file.rule_text_of_file.Goals as goal

pub returns : goal.returns
returns g c =
    loads_file g.Y.File.Source.may_give (g.Y.System.holds c.args.system.now c.args.name.now) c.in-Ok.file c.read_rule_text.new.file
    c.in-Ok.ensures c.read_rule_text.result c.read_rule_text.ensures
