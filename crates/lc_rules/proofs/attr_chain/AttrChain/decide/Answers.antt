use Rattle.std.proofs.lemmas.Result.{IfOk-weaker}
use Rattle.lc_rules.specs.Chains.{lent}
use Rattle.lc_rules.proofs.Deciding.{info_decides, lowest_decides, tree_decides}
use Rattle.lc_rules.proofs.attr_chain.AttrChain.decide.Goals as goal

pub returns-in-Some : goal.returns-in-Some
returns-in-Some c =
    let inside = c.self.inside in
    info_decides c.args.self.now (lent inside.lowest) inside.files (lent inside.info) c.self.view_is c.args.path.now c.args.is_dir
    c.in-Some.is c.in_ok-state.ensures

pub returns-in-Some-2 : goal.returns-in-Some-2
returns-in-Some-2 c =
    let inside = c.self.inside in
    tree_decides c.args.self.now (lent inside.lowest) inside.files (lent inside.info) c.self.view_is c.args.path.now c.args.is_dir
    c.left.result c.new-whole.result.path.now c.left.ensures c.new-whole.ensures c.in_default.is c.in_ok-state.ensures
    c.in_ok-state-2.ensures c.in-Some-2.is

pub returns : goal.returns
returns c =
    let inside = c.self.inside in
    IfOk-weaker c.decide_by_optional_file-2.result _ _
    (λ found. lowest_decides c.args.self.now (lent inside.lowest) inside.files (lent inside.info) c.self.view_is c.args.path.now
    c.args.is_dir c.left.result c.new-whole.result.path.now c.left.ensures c.new-whole.ensures c.in_default.is c.in_ok-state.ensures
    c.in_ok-state-2.ensures c.in_default-2.is)
    c.decide_by_optional_file-2.ensures
