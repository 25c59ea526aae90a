use Rattle.std.proofs.Common.{◌∙◌, [], ap, option_map}
use Rattle.lc_program.proofs.NamesTaken.{first_next, none_left}
use Rattle.lc_program.proofs.hints.first_above.Goals as goal

pub returns-in_err-repository : goal.returns-in_err-repository
returns-in_err-repository c =
    ap (option_map (λ a. (a.0.now, a.1.now))) c.from_residual.ensures
    ∙ none_left _ c.loop-directory.rest.now _ c.in_err-repository.ensures.cases c.loop-directory.invariant

pub loop-directory-preserved : goal.loop-directory-preserved
loop-directory-preserved c =
    first_next c.args.directories.now c.loop-directory.directory-index (record { ref_ptr = (0, 0); now = [] })
    c.in_ok-repository.repository.now c.loop-directory.rest.now
    c.in_ok-repository.others.now _ c.loop-directory-test.true c.in_ok-repository.ensures.cases.0 c.in_default.is c.loop-directory.invariant
