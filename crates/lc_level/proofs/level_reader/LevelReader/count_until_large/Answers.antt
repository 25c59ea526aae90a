use Rattle.std.proofs.{Common.{◌≡◌, ◌∙◌, [], rules}, lemmas.List.nil_from_length}
use Rattle.lc_level.proofs.RestFiles.{counted_last}
use Rattle.lc_level.proofs.level_reader.LevelReader.count_until_large.Goals as goal

pub loop-name-preserved-then-not-ends_large : goal.loop-name-preserved-then-not-ends_large
loop-name-preserved-then-not-ends_large g c =
    let (_, _, same, some) = c.loop-name.invariant in
    let none : c.loop-name.rest.items ≡ [] = nil_from_length _ (search rules) in (
      tt,
      tt,
      c.in_ok-count_named.ensures.same ∙ same,
      counted_last (g.T.Tree.gives c.args.self.now.tree.now) c.args.self.now.filters.now c.args.job.now c.in-Some.name c.loop-name.found
          c.count_named.new.found c.loop-name.rest.items none c.in_ok-count_named.ensures.counted c.loop-name.yielded
          c.args.absent.items some,
    )
