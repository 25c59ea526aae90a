use Rattle.std.proofs.{Common.rules, lemmas.Fn.always_returns_same}
use Rattle.std.specs.Ordering.{is_lt}
use Rattle.lc_tree.specs.ByteOrder.{bytes_cmp}
use Rattle.lc_tree.proofs.Sorting.{sorted_paths, paths_rank}
use Rattle.lc_walk.proofs.report.sort_lines.Goals as goal

pub returns-clause-order : goal.returns-clause-order
returns-clause-order g c =
    c.sort_unstable_by.ensures.sorted (λ x y. is_lt (bytes_cmp (g.L.Line.path_of x) (g.L.Line.path_of y)))
    (paths_rank g.L.Line.path_of) (always_returns_same _ _ _ (λ a r q k. search rules))

pub returns-clause-strict : goal.returns-clause-strict
returns-clause-strict g c =
    sorted_paths g.L.Line.path_of c.args.lines.now.items c.sort_unstable_by.new.self.items c.sort_unstable_by.ensures.permutation
    (returns-clause-order g c)
