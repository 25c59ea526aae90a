use Rattle.std.proofs.Common.{◌∙◌, ap, sym}
use Rattle.lc_arguments.specs.Directories.{unslashed}
use Rattle.lc_arguments.proofs.AskedDirectories.{none_less, one_less, tests_end}
use Rattle.lc_arguments.proofs.directories.unslashed.Goals as goal

pub slashes-preserved : goal.slashes-preserved
slashes-preserved c =
    let left = c.slashes.left.now in
    ap unslashed c.in-Some.ensures.cases.1 ∙ (one_less left (sym (tests_end left) ∙ c.in-Some.ensures.cases.0) ∙ c.slashes.invariant)

pub returns : goal.returns
returns c =
    let left = c.slashes.left.now in
    none_less left (sym (tests_end left) ∙ c.in_default.ensures.cases) ∙ c.slashes.invariant
