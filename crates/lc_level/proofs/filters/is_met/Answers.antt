use Rattle.std.proofs.Common.{rules}
use Rattle.lc_level.proofs.ValueWords.{value_split}
use Rattle.lc_level.proofs.filters.is_met.Goals as goal

pub returns : goal.returns
returns c =
    search (
      rules,
      value_split c.args.word.now c.cut_at_first.result.0.now c.cut_at_first.result.1 c.cut_at_first.ensures.before
          c.cut_at_first.ensures.after c.cut_at_first.ensures.whole,
    )
