use Rattle.std.proofs.Common.{sym, ◌∙◌, ap}
use Rattle.std.specs.Option.{option_copied}
use Rattle.lc_paths.proofs.Explanations.StackEnds.{below_stack}
use Rattle.lc_paths.proofs.explaining.dir_stack.DirStack.rest_of.Goals as goal

pub returns : goal.returns
returns c =
    below_stack c.args.self.now c.in-Some.last.now c.args.path.now c.rest_of.result
    (sym c.last.ensures ∙ ap option_copied c.in-Some.is) c.rest_of.ensures
