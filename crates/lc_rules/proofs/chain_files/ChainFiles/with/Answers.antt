use Rattle.std.proofs.Common.{◌∙◌, sym, ap}
use Rattle.std.specs.List.{filter_map}
use Rattle.lc_rules.specs.Chains.{entry_file, with_file}
use Rattle.lc_rules.proofs.ChainOrder.{files_with}
use Rattle.lc_rules.proofs.chain_files.ChainFiles.with.Goals as goal

pub returns : goal.returns
returns g c =
    let chain = c.args.self.now in
    files_with c.in_ok-entries.entries.items c.push.new.self.items chain c.args.depth c.in-Some.file
    (ap (filter_map entry_file) c.in_ok-entries.ensures ∙ c.as_slice.ensures) c.in_ok-push.ensures.ok
    ∙ sym (ap (with_file chain c.args.depth) c.in-Some.is)
