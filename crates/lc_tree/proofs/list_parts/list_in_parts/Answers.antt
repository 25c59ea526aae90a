use Rattle.std.proofs.Common.{Ok, subst}
use Rattle.lc_tree.specs.Named.{bytes_of, GivesNames, ListsNamed}
use Rattle.lc_tree.proofs.NamedLists.{lists_more, of_names}
use Rattle.lc_tree.proofs.list_parts.list_in_parts.Goals as goal

pub returns-in-Ok-Some : goal.returns-in-Ok-Some
returns-in-Ok-Some g c =
    let law = g.met.T.Tree g.world.𝓛 g.world.𝓜 g.world.𝓡 ((λ s x. x), (λ x. x), (λ x. x), λ x. x) in
    let tree = c.args.tree.now in
    let path = c.args.path.now in
    let has = g.T.Tree.has_names tree path in
    let shows = g.T.Tree.shows tree path in
    let given = subst (λ o. GivesNames has (Ok o)) c.in-Ok-Some.field-0-is c.in-Ok-Some.ensures in
    lists_more (ListsNamed has shows) (g.T.Tree.lists tree path) (law.lists_named tree path) c.list_names.result
    (of_names has shows (bytes_of c.in-Ok-Some.names.items) c.list_names.result given c.list_names.ensures)
