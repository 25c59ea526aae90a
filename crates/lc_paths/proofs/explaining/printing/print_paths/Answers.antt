use Rattle.std.proofs.Common.{◌++◌, ◌∷◌, [], refl}
use Rattle.lc_paths.specs.Explanations.OpenDirs.{MayEnter}
use Rattle.lc_paths.proofs.Explanations.StackCaching.{no_stacks}
use Rattle.lc_paths.proofs.Explanations.SoFar.{so_far_none, so_far_told, so_far_printed, so_far_stopped, so_far_refused, so_far_ended}
use Rattle.lc_paths.proofs.Explanations.SoFar.{so_far_cut, refused_first}
use Rattle.lc_paths.proofs.Explanations.OutputLines.{line_done}
use Rattle.lc_paths.proofs.explaining.printing.print_paths.Goals as goal

pub returns-in_err-kept : goal.returns-in_err-kept
returns-in_err-kept g c = refused_first g.O.Sink.may_take _ _ _ c.args.out.now _ c.from_residual.ensures.1

pub lines-init : goal.lines-init
lines-init g c = record {
  stacks = no_stacks (MayEnter (g.T.Tree.lists c.args.explainer.now.reader.tree.now) (g.T.Tree.gives c.args.explainer.now.reader.tree.now))
      c.args.explainer.now.reader.filters.now c.in_ok-kept.kept
      c.in_ok-kept.ensures;
  done = [];
  so_far = so_far_none _ _ _ _ _ _ c.new-output.ensures.text c.new-output.ensures.outcome;
  left = refl;
}

pub returns-in_err-tell : goal.returns-in_err-tell
returns-in_err-tell g c =
    so_far_refused _ _ _ _ _ _ _ _ c.lines.invariant.so_far _ _ c.lines.invariant.left _ c.from_residual-in_err-tell.ensures.1

pub returns-in_err-print_if_full : goal.returns-in_err-print_if_full
returns-in_err-print_if_full g c =
    let inv = c.lines.invariant in
    so_far_stopped _ _ _ _ _ _ _ _ (so_far_told _ _ _ _ _ _ _ _ inv.so_far _ _ _ c.in_ok-tell.ensures.told) _ _
    (line_done _ _ _ _ _ inv.left c.in-Some.ensures) _ _ _ _ c.in_err-print_if_full.ensures
    c.from_residual-in_err-print_if_full.ensures.1

pub lines-preserved : goal.lines-preserved
lines-preserved g c =
    let inv = c.lines.invariant in
    record {
      stacks = c.in_ok-tell.ensures.stacks;
      done = inv.done ++ c.in-Some.line.now ∷ [];
      so_far = so_far_printed _ _ _ _ _ _ _ _ (so_far_told _ _ _ _ _ _ _ _ inv.so_far _ _ _ c.in_ok-tell.ensures.told) _ _
          c.in_ok-print_if_full.ensures;
      left = line_done _ _ _ _ _ inv.left c.in-Some.ensures;
    }

pub returns-in_err-print_rest : goal.returns-in_err-print_rest
returns-in_err-print_rest g c =
    so_far_cut _ _ _ _ _ _ _ _ c.lines.invariant.so_far _ _ c.lines.invariant.left _ _ _ c.in_err-print_rest.ensures.answers
    c.from_residual-in_err-print_rest.ensures.1

pub returns : goal.returns
returns g c =
    so_far_ended _ _ _ _ _ _ _ _ c.lines.invariant.so_far _ _ c.lines.invariant.left c.in_default.ensures _
    c.in_ok-print_rest.ensures.answers
