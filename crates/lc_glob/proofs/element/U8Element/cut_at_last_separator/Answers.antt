use Rattle.lc_glob.proofs.Naming.{no_last_slash, at_last_slash}
use Rattle.lc_glob.proofs.element.U8Element.cut_at_last_separator.Goals as goal

pub returns-in-None : goal.returns-in-None
returns-in-None c = no_last_slash _ c.in-None.ensures

pub returns-in-Some : goal.returns-in-Some
returns-in-Some c = at_last_slash _ _ c.in-Some.ensures
