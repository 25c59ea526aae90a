use Rattle.std.proofs.Common.{arith}
use Rattle.lc_rules.specs.IgnoreRules.{without_spaces}
use Rattle.lc_rules.proofs.LineEnds.{after_start, kept_quoted, kept_space, kept_other, eq_true, ne_false, no_quote, lone_quote, IsOne}
use Rattle.lc_rules.proofs.ignore_line.without_spaces.Goals as goal
use Rattle.lc_rules.proofs.ignore_line.without_spaces.Goals.{else-line-read-eq92-via-then-line-read-eq92+else-read-line}
use Rattle.lc_rules.proofs.ignore_line.without_spaces.Goals.{else-line-read-eq92-via-else-line-read-eq92}

pub units-init : goal.units-init
units-init c = record { kept = omega arith; read = omega arith; same = after_start (without_spaces c.args.line.now) }

pub units-preserved-then-read-line : goal.units-preserved-then-read-line
units-preserved-then-read-line c = record {
  kept = omega arith;
  read = omega arith;
  same = kept_quoted c.args.line.now c.units.kept c.units.read (omega arith) (eq_true _ _ c.if-line-read-eq92.true) c.units.invariant.same;
}

pub units-preserved-then-not-is_space : goal.units-preserved-then-not-is_space
units-preserved-then-not-is_space c =
    let one : IsOne c.args.line.now c.units.read = elim c.else-line-read-eq92.branch [
      | else-line-read-eq92-via-then-line-read-eq92+else-read-line w ↦ lone_quote c.args.line.now c.units.read (omega arith) (omega arith)
      | else-line-read-eq92-via-else-line-read-eq92 w ↦ no_quote c.args.line.now c.units.read (omega arith)
          (ne_false _ _ w.if-line-read-eq92.false)
    ] in
    record {
      kept = omega arith;
      read = omega arith;
      same = kept_other c.args.line.now c.units.kept c.units.read (omega arith) one
          (ne_false _ _ c.if-not-is_space.true) c.units.invariant.same;
    }

pub units-preserved : goal.units-preserved
units-preserved c =
    let one : IsOne c.args.line.now c.units.read = elim c.else-line-read-eq92.branch [
      | else-line-read-eq92-via-then-line-read-eq92+else-read-line w ↦ lone_quote c.args.line.now c.units.read (omega arith) (omega arith)
      | else-line-read-eq92-via-else-line-read-eq92 w ↦ no_quote c.args.line.now c.units.read (omega arith)
          (ne_false _ _ w.if-line-read-eq92.false)
    ] in
    record {
      kept = omega arith;
      read = omega arith;
      same = kept_space c.args.line.now c.units.kept c.units.read (omega arith) one
          (eq_true _ _ c.if-not-is_space.false) c.units.invariant.same;
    }
