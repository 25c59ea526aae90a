use Rattle.lc_program.proofs.TextsLoaded.{loads_text}
use Rattle.lc_program.proofs.named_texts.text_in_file.Goals as goal

pub returns : goal.returns
returns g c =
    loads_text c.args.limit g.Y.File.Source.may_give (g.Y.System.holds c.args.system.now c.args.name.now) c.in-Ok.file c.read_text.new.text
    c.in-Ok.ensures c.read_text.result c.read_text.ensures
