use Rattle.std.proofs.Common.{◌≡◌, ◌∙◌, ap, subst}
use Rattle.lc_tree.specs.{Nodes.node_at, MemTrees.content_of, Trees.{Content, GivesContent}}
use Rattle.lc_tree.proofs.Contents.{reads_give}
use Rattle.lc_tree.proofs.mem_tree.MemTreeTree.open_file.Goals as goal

-- the file is what stands at the path, and its reads give its content
pub returns-in-Some-of_node-clause-given : goal.returns-in-Some-of_node-clause-given
returns-in-Some-of_node-clause-given c =
    let path = c.args.path.now in
    let is : c.in-Some-of_node.file ≡ content_of (node_at c.args.self.now path) =
    c.in-Some-of_node.ensures ∙ (ap content_of c.in-Some.ensures ∙ ap (λ top. content_of (node_at top path)) c.self.view_is) in
    λ rooms pieces stop left reads. subst (λ (content : Content). GivesContent content rooms pieces stop) is
    (reads_give rooms c.in-Some-of_node.file left pieces stop reads)
