use Rattle.std.proofs.Common.{sym, ◌∙◌}
use Rattle.lc_level.proofs.AskedPaths.{empty_unseen, seen_relative}
use Rattle.lc_level.proofs.narrowing.below.rest_from.Goals as goal

pub returns-then-is_empty : goal.returns-then-is_empty
returns-then-is_empty c =
    sym (empty_unseen c.args.directory.now c.args.path.now (sym c.is_empty.ensures ∙ c.if-is_empty.true))

pub returns : goal.returns
returns c =
    seen_relative c.args.directory.now c.args.path.now c.relative_to.result (sym c.is_empty.ensures ∙ c.if-is_empty.false)
    c.relative_to.ensures
