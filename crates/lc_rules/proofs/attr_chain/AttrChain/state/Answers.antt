use Rattle.std.proofs.Common.{ap, None, Some}
use Rattle.lc_rules.specs.Models.{state_model, seen_state}
use Rattle.lc_rules.proofs.Deciding.{state_decides}
use Rattle.lc_rules.proofs.attr_chain.AttrChain.state.Goals as goal

pub returns-in-Some : goal.returns-in-Some
returns-in-Some c =
    state_decides c.args.self.now _ c.args.path.now c.args.is_dir (Some (state_model c.in-Some.state)) c.macros.ensures
    c.new-resolver.ensures.decided (ap seen_state c.in-Some.is) c.in_ok-state.ensures

pub returns : goal.returns
returns c =
    state_decides c.args.self.now _ c.args.path.now c.args.is_dir None c.macros.ensures
    c.new-resolver.ensures.decided (ap seen_state c.in-None.is) c.in_ok-state.ensures
