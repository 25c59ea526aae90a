use Rattle.std.proofs.Common.{sym, ◌∙◌}
use Rattle.lc_tree.specs.Named.{bytes_of}
use Rattle.lc_tree.proofs.{Joining.looks_joined, SomeNames.memory_fault}
use Rattle.lc_tree.proofs.list_parts.look_in_parts.Goals as goal

pub returns-in_default : goal.returns-in_default
returns-in_default g c = memory_fault (g.T.Tree.shows c.args.tree.now c.args.path.now) (bytes_of c.args.names.items)

pub returns-in_default-look_at_runs : goal.returns-in_default-look_at_runs
returns-in_default-look_at_runs g c = memory_fault (g.T.Tree.shows c.args.tree.now c.args.path.now) (bytes_of c.args.names.items)

pub returns : goal.returns
returns g c =
    looks_joined (g.T.Tree.shows c.args.tree.now c.args.path.now) c.args.names.items c.in-Ok.runs.items
    c.in-Ok-look_at_runs.parts.items c.join.result c.in-Ok.ensures.all
    (sym c.in-Ok-look_at_runs.parts.ok.0 ∙ c.in-Ok-look_at_runs.ensures.all ∙ c.in-Ok.runs.ok.0)
    c.in-Ok-look_at_runs.ensures.each c.join.ensures
