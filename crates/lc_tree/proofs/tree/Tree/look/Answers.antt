use Rattle.lc_tree.specs.Named.{bytes_of}
use Rattle.lc_tree.proofs.SomeNames.{memory_fault}
use Rattle.lc_tree.proofs.tree.Tree.look.Goals as goal

-- no look was made
pub returns : goal.returns
returns g c = memory_fault (g.Self.Tree.shows c.args.self.now c.args.path.now) (bytes_of c.args.names.items)
