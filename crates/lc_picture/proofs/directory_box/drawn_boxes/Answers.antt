use Rattle.std.proofs.{Common.{◌≡◌, ℕ, ◌+◌, ◌++◌, List, Vec, drop, get_or, ap, ap₂, ◌∙◌, arith}, lemmas.Bool.{le-leb, lt-leb}}
use Rattle.std.specs.Global.{Global}
use Rattle.lc_rows.specs.{RowKeys.ShownRowModel, ShownRows.number_in}
use Rattle.lc_picture.specs.{declared.small_directories.SmallDirectories.SmallDirectories, Boxes.{BoxModel, drawn_boxes}}
use Rattle.lc_picture.specs.{Small.no_directories}
use Rattle.lc_picture.proofs.{DrawnRows.{drawn_more, passed_over}, directory_box.drawn_boxes.Goals.then-number_in-least+in_ok-place}
use Rattle.lc_picture.proofs.directory_box.drawn_boxes.Goals.{else-number_in-least}
use Rattle.lc_picture.proofs.directory_box.drawn_boxes.Goals as goal

pub loop-index-preserved : goal.loop-index-preserved
loop-index-preserved c =
    let by = c.args.by in
    let least = c.args.least in
    let rows : List ShownRowModel = c.args.rows.now in
    let i : ℕ = c.loop-index.index in
    let kinds : List ShownRowModel = drop c.loop-index.place c.args.kinds.now in
    let r : ShownRowModel = c.index-rows-index.result in
    let before : List BoxModel = c.loop-index.boxes.items in
    let own : c.number_in.result ≡ number_in by r.sums =
    c.number_in.ensures ∙ ap (λ (x : ShownRowModel). number_in by x.sums) c.row.view_is in
    elim c.if-number_in-least.branch [
      | then-number_in-least+in_ok-place w ↦
          drawn_more by least kinds (drop c.if-number_in-least.place c.args.kinds.now) r _ rows i w.small_at.result before
          c.if-number_in-least.boxes.items _ c.loop-index-test.true c.index-rows-index.is
          (le-leb least (number_in by r.sums) (omega (arith, w.if-number_in-least.true, own)))
          (w.small_at.ensures
          ∙ ap (λ (l : List SmallDirectories). get_or l i no_directories) (w.deref.ensures.value ∙ c.in_ok-smalls.ensures))
          (ap (λ (p : ℕ). drop p c.args.kinds.now) w.place-is ∙ w.in_ok-place.ensures.kinds)
          (ap (λ (v : Vec BoxModel Global). v.items) w.boxes-is ∙ w.in_ok-place.ensures.boxes) c.loop-index.invariant
      | else-number_in-least w ↦
          ap₂ (λ (v : Vec BoxModel Global) (p : ℕ). v.items ++ drawn_boxes by least (drop p c.args.kinds.now) (drop (i + 1) rows))
          w.boxes-is w.place-is
          ∙ passed_over by least kinds r _ rows i before _ c.loop-index-test.true c.index-rows-index.is
          (lt-leb least (number_in by r.sums) (omega (arith, w.if-number_in-least.false, own))) c.loop-index.invariant
    ]
