use Rattle.std.proofs.Common.{◌∙◌, ap}
use Rattle.lc_rules.specs.Verdicts.{below}
use Rattle.lc_rules.proofs.Deciding.{nearer_files_decide, first_file_decides}
use Rattle.lc_rules.proofs.attr_chain.+decide_by_files.Goals as goal

pub returns-in-Some-2 : goal.returns-in-Some-2
returns-in-Some-2 t c =
    nearer_files_decide c.args.files c.in-Some.nearer c.in-Some.depth c.in-Some.file.now c.in-Some.ensures c.args.path.path.now
    c.at-inner.result.path.now c.at-inner.ensures.path c.args.is_dir c.in-Some-2.is c.in_ok-state.ensures

pub returns : goal.returns
returns t c =
    let inner = c.at-inner.result in
    let same = c.at-inner.ensures.path in
    let cut = inner.cut ∙ ap (λ d. below d inner.path.now) c.at-inner.ensures.depth ∙ ap (below c.in-Some.depth) same in
    first_file_decides c.args.files c.in-Some.nearer c.in-Some.depth c.in-Some.file.now c.in-Some.ensures c.args.path.path.now
    inner.path.now same c.args.is_dir inner.rest.now cut c.in_default-2.is c.in_ok-state.ensures c.in_ok-found.ensures
