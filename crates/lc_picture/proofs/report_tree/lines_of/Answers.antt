use Rattle.std.proofs.Common.{◌≡◌, ◌==◌, ◌∙◌, ℕ, Bool, true, List, [], ◌∷◌, ap, length, refl, sym, arith, rules, vec_len}
use Rattle.lc_picture.specs.{Boxes.BoxModel, Tree.lines_of}
use Rattle.lc_picture.proofs.report_tree.lines_of.Goals as goal

none_there : (bs : List BoxModel) (n : ℕ) (empty : Bool) → n ≡ length bs → empty ≡ (n == 0) → empty ≡ true → bs ≡ []
none_there [] n empty len is on = refl
none_there (b ∷ bs) n empty len is on = grind arith

pub returns-then-is_empty : goal.returns-then-is_empty
returns-then-is_empty c =
    let len : vec_len c.args.boxes ≡ length c.args.boxes.items = search rules in
    let none = none_there c.args.boxes.items (vec_len c.args.boxes) c.is_empty.result len c.is_empty.ensures c.if-is_empty.true in
    c.in_ok-lines.ensures c.args.by c.args.levels
    ∙ ap (λ (bs : List BoxModel). lines_of c.args.title.now c.args.by c.args.levels bs) (sym none)
