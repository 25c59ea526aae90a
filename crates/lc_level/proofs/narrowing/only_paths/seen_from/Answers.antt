use Rattle.std.proofs.{Common.{[], ◌++◌, map, sym, ◌∙◌, ap, append-nil}, lemmas.List.drop_more}
use Rattle.lc_level.proofs.SeenPaths.{none_left}
use Rattle.lc_level.proofs.narrowing.only_paths.seen_from.Goals as goal

pub returns-in_default : goal.returns-in_default
returns-in_default c =
    let found = map (λ rest. rest.now) c.loop-path.seen.items in
    let none = none_left c.args.directory.now c.args.paths.now c.loop-path.path-index _ _
    (drop_more c.args.paths.now c.loop-path.path-index (record { ref_ptr = (0, 0); now = [] }) c.loop-path-test.true)
    c.requires.order c.requires.past (sym c.in_default.ensures) in
    sym (append-nil found) ∙ ap (λ l. found ++ l) (sym none) ∙ c.loop-path.invariant
