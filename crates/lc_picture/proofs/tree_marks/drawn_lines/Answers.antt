use Rattle.std.proofs.Common.{◌≡◌, ◌+◌, ◌<◌, ◌==◌, ◌++◌, Bool, false, nat_lt, if◌then◌else◌, ℕ, List, [], ◌∷◌, ap, ap₂, get_or, length}
use Rattle.std.proofs.{Common.{reverse, take, sym, ◌∙◌}, Math.Path.fun_ext, lemmas.List.{reverse-append, take_more}}
use Rattle.lc_picture.specs.Boxes.{BoxModel}
use Rattle.lc_sheet.specs.declared.column.Number.{Number}
use Rattle.lc_formats.specs.TreeText.{TreeLineModel}
use Rattle.lc_picture.specs.TreeMarks.{drawn_lines, goes_on, marked}
use Rattle.lc_picture.proofs.tree_marks.drawn_lines.Goals as goal

-- one line more, turned round
turned : (l d : BoxModel) (ls : List BoxModel) (i : ℕ) → i < length ls → l ≡ get_or ls i d
    → l ∷ reverse (take i ls) ≡ reverse (take (i + 1) ls)
turned l d ls i inside is =
    ap (λ (x : BoxModel). x ∷ reverse (take i ls)) is
    ∙ sym (ap reverse (take_more ls i d inside) ∙ reverse-append (take i ls) (get_or ls i d ∷ []))

one_drawn : (by : Number) (l : BoxModel) (ls : List BoxModel) (going : ℕ → Bool) (x : TreeLineModel) (old new : List TreeLineModel)
    → ((level : ℕ) → going level ≡ goes_on ls level) → x ≡ marked by going l → old ≡ reverse (drawn_lines by ls) → new ≡ old ++ x ∷ []
    → new ≡ reverse (drawn_lines by (l ∷ ls))
one_drawn by l ls going x old new same is before more =
    more
    ∙ ap₂ (λ (ds : List TreeLineModel) (y : TreeLineModel). ds ++ y ∷ []) before
    (is ∙ ap (λ (f : ℕ → Bool). marked by f l) (fun_ext same))
    ∙ sym (reverse-append (marked by (goes_on ls) l ∷ []) (drawn_lines by ls))

pub loop-drawn-preserved : goal.loop-drawn-preserved
loop-drawn-preserved c =
    let i = c.loop-drawn.drawn-index in
    let l : BoxModel = c.drawn-item.result in
    let before : List BoxModel = reverse (take i c.args.boxes.now) in
    let old : List Bool = c.loop-drawn.going.items in
    let turn : l ∷ before ≡ reverse (take (i + 1) c.args.boxes.now) =
    turned l _ c.args.boxes.now i c.loop-drawn-test.true c.drawn-item.is in
    record {
      going =
          λ level. c.in_ok-next_going.ensures level
          ∙ ap (λ (m : BoxModel). if nat_lt level m.depth then get_or old level false else m.depth == level) c.drawn.view_is
          ∙ ap (λ (b : Bool). if nat_lt level l.depth then b else l.depth == level) (c.loop-drawn.invariant.going level)
          ∙ ap (λ (ms : List BoxModel). goes_on ms level) turn;
      lines =
          one_drawn c.args.by l before (λ level. get_or c.deref.result.now level false) c.in_ok-next.next c.loop-drawn.lines.items
          c.push.new.self.items
          (λ level. ap (λ (bs : List Bool). get_or bs level false) c.deref.ensures.value ∙ c.loop-drawn.invariant.going level)
          c.in_ok-next.ensures c.loop-drawn.invariant.lines c.in_ok-push.ensures.items
          ∙ ap (λ (ms : List BoxModel). reverse (drawn_lines c.args.by ms)) turn;
    }
