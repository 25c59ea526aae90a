use Rattle.std.proofs.{Common.{◌≡◌, ◌++◌, map, take, drop, arith, sym, ◌∙◌, ap}, lemmas.Grind.common_steps}
use Rattle.std.specs.Arc.{arc_value}
use Rattle.lc_paths.specs.Explanations.OpenDirs.{DirStack}
use Rattle.lc_paths.proofs.Explanations.StackCaching.{map_apart}
use Rattle.lc_paths.proofs.explaining.dir_stack.DirStack.first.Goals as goal

pub returns : goal.returns
returns c =
    let items = c.deref.result.now in
    let first : map arc_value (take c.args.count items) ≡ map arc_value c.in_ok-directories.directories.items =
    grind (arith, common_steps, c.in_ok-directories.ensures) in
    let rest : DirStack = map arc_value (drop c.args.count items) in (
      rest,
      sym c.self.view_is ∙ ap (map arc_value) (sym c.deref.ensures.value) ∙ map_apart arc_value c.args.count items
          ∙ ap (λ (l : DirStack). l ++ rest) first,
    )
