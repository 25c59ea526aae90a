use Rattle.std.proofs.Common.{arith, ◌≡◌, ◌∙◌, ◌+◌, ◌-◌, ◌++◌, List, ap, append_assoc, drop, length, length-drop, map, subst, sym}
use Rattle.std.proofs.{Common.take, lemmas.List.{drop-drop, take-append-drop, take_rest, Sorted.IsNonDecreasingBy-drop}}
use Rattle.std.specs.List.{flat_map}
use Rattle.lc_rows.specs.{LevelParts.{height, next_above, own_row}, RowKeys.ShownRowModel, ShownRows.AreAddedUp}
use Rattle.lc_rows.proofs.Above.{IsRaised, raised_first, raised_more, raised_all}
use Rattle.lc_rows.proofs.directory_tree.all_levels.Goals as goal

pub levels-init : goal.levels-init
levels-init c = (
  rw (c.new-all.ensures.items, c.new-raised.ensures.items) (raised_first c.args.depth c.args.rows.now c.requires),
  omega arith,
  omega arith,
)

pub levels-preserved : goal.levels-preserved
levels-preserved c =
    let n = c.args.depth in
    let raised : List ShownRowModel = c.levels.raised.items in
    let left : List ShownRowModel = drop c.levels.done c.args.rows.now in
    let rest : List ShownRowModel = take (length c.args.rows.now - c.levels.done) left in
    let whole : rest ≡ left = take_rest c.args.rows.now c.levels.done in
    let was : IsRaised n c.args.rows.now c.levels.all.items raised rest c.levels.left =
    subst (λ l. IsRaised n c.args.rows.now c.levels.all.items raised l c.levels.left) (sym whole) c.levels.invariant.0 in
    let count = c.count_to_level-here.result in
    let level : List ShownRowModel = c.in_ok-level.level.items in
    let above : List ShownRowModel = c.in_ok-raised.raised.items in
    let added : AreAddedUp (raised ++ take count rest) level =
    subst (λ (rs : List ShownRowModel). AreAddedUp (rs ++ take count rest) level) c.deref.ensures.value c.in_ok-level.ensures in
    let next : AreAddedUp (flat_map (next_above n) level) above =
    subst (λ (rs : List ShownRowModel). AreAddedUp (flat_map (next_above n) rs) above) c.deref-in-levels-2.ensures.value
    c.in_ok-raised.ensures in
    let all : c.push_own.new.all.items ≡ c.levels.all.items ++ map (own_row n) level =
    c.in_ok-push_own.ensures ∙ ap (λ (rs : List ShownRowModel). c.levels.all.items ++ map (own_row n) rs) c.deref-in-levels.ensures.value in
    let more = raised_more n c.args.rows.now c.levels.all.items raised rest (raised ++ take count rest) (drop count rest) level above
    c.levels.left was (append_assoc raised (take count rest) (drop count rest) ∙ ap (λ l. raised ++ l) (take-append-drop count rest))
    added next (IsNonDecreasingBy-drop (height n) count rest was.order) c.count_to_level-here.ensures.below in (
      subst (λ l. IsRaised n c.args.rows.now l above (drop (c.levels.done + count) c.args.rows.now) (c.levels.left - 1)) (sym all)
          (subst (λ l. IsRaised n c.args.rows.now (c.levels.all.items ++ map (own_row n) level) above l (c.levels.left - 1))
          (ap (drop count) whole ∙ drop-drop count c.levels.done c.args.rows.now) more),
      omega (arith, c.count_to_level-here.ensures.few, ap length whole, length-drop c.levels.done c.args.rows.now, c.levels.invariant.1),
      omega (arith, c.levels.invariant.2),
    )

pub returns : goal.returns
returns c =
    raised_all c.args.depth c.args.rows.now c.levels.all.items c.levels.raised.items (drop c.levels.done c.args.rows.now) c.levels.left
    c.levels.invariant.0 (omega (arith, c.levels-test.false))
