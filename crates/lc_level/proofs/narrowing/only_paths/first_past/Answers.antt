use Rattle.std.proofs.{Common.{rules, List, ℕ, Bor}, lemmas.List.Sorted.IsPartitionPoint-from_clause}
use Rattle.lc_level.specs.PathSteps.{comes_before}
use Rattle.lc_level.proofs.{ByHalves.in_front, PathOrder.comes_falls}
use Rattle.lc_level.proofs.narrowing.only_paths.first_past.Goals as goal

pub returns-clause-place : goal.returns-clause-place
returns-clause-place c =
    let directory = c.args.directory.now in
    IsPartitionPoint-from_clause (λ (p : Bor (List ℕ)). comes_before directory p.now) c.args.paths.now _
    c.partition_point.ensures.partitioned
    (in_front (λ (p : Bor (List ℕ)). p.now) _ (λ x y. comes_falls directory x.now y.now) c.args.paths.now c.requires)
    (λ a r f' k. search rules)
