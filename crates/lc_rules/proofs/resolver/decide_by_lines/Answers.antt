use Rattle.std.proofs.{Common.{◌≡◌, ◌∙◌, ◌++◌, ℕ, List, None, Some, ap, arith, length, reverse, sym, take}, Math.Seq.take-length}
use Rattle.std.proofs.lemmas.List.{length-map}
use Rattle.lc_rules.specs.{Attributes.AssignmentModel, AttrLines.PatternLineModel, AttrStates.by_lines}
use Rattle.lc_rules.proofs.{Deciding.{all_passed, next_decides, next_passes, none_passed}, ReadingOrder.next_line}
use Rattle.lc_rules.proofs.resolver.decide_by_lines.Goals as goal

pub lines-init : goal.lines-init
lines-init c =
    let lines = c.args.table.now.lines in
    let all : c.len-below.result ≡ length lines = c.len-below.ensures ∙ ap length c.patterns-patterns.ensures
    ∙ length-map lines (λ (l : PatternLineModel). l.pattern) in
    record {
      within = omega (arith, all);
      passes = none_passed c.requires
          (sym (ap (λ (n : ℕ). by_lines (take n lines) c.args.path.now c.args.is_dir) all
          ∙ ap (λ (l : List PatternLineModel). by_lines l c.args.path.now c.args.is_dir) (take-length lines)));
    }

pub last_match-requires : goal.last_match-requires
last_match-requires c =
    let lines = c.args.table.now.lines in
    omega (
      arith,
      c.lines.invariant.within,
      ap length c.patterns-patterns.ensures,
      length-map lines (λ (l : PatternLineModel). l.pattern),
    )

pub assignments_at-requires : goal.assignments_at-requires
assignments_at-requires c = omega (arith, c.lines.invariant.within, c.in-Some.ensures.within)

pub returns-in-Some-2 : goal.returns-in-Some-2
returns-in-Some-2 c =
    let lines = c.args.table.now.lines in
    let rest = by_lines (take c.in-Some.index lines) c.args.path.now c.args.is_dir in
    next_decides rest c.lines.invariant.passes
    (next_line lines _ c.args.path.now _ c.args.is_dir c.lines.below (Some c.in-Some.index) c.lines.invariant.within
    c.patterns-patterns.ensures c.for_patterns-candidate.ensures c.in-Some.ensures.found
    ∙ ap (λ (assigns : List AssignmentModel). reverse assigns ++ rest) (sym c.in_ok-words.ensures))
    c.in-Some-2.is c.in_ok-state.ensures

pub returns : goal.returns
returns c =
    all_passed c.lines.invariant.passes
    (next_line c.args.table.now.lines _ c.args.path.now _ c.args.is_dir c.lines.below None c.lines.invariant.within
    c.patterns-patterns.ensures c.for_patterns-candidate.ensures c.in_default.ensures.found)

pub lines-preserved : goal.lines-preserved
lines-preserved c =
    let lines = c.args.table.now.lines in
    let rest = by_lines (take c.in-Some.index lines) c.args.path.now c.args.is_dir in
    record {
      within = omega (arith, c.lines.invariant.within, c.in-Some.ensures.within);
      passes = next_passes rest c.lines.invariant.passes
          (next_line lines _ c.args.path.now _ c.args.is_dir c.lines.below (Some c.in-Some.index) c.lines.invariant.within
          c.patterns-patterns.ensures c.for_patterns-candidate.ensures c.in-Some.ensures.found
          ∙ ap (λ (assigns : List AssignmentModel). reverse assigns ++ rest) (sym c.in_ok-words.ensures))
          c.in_default-2.is c.in_ok-state.ensures;
    }
