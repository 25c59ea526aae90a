use Rattle.std.proofs.Common.{◌≡◌, ◌-◌, ◌==◌, ◌++◌, Bool, true, false, nat_lt, if◌then◌else◌, ℕ, List, [], ◌∷◌, ap, get_or, length}
use Rattle.std.proofs.Common.{replicate, take, zero, suc, refl, ◌∙◌, arith, rules, vec_len}
use Rattle.lc_picture.proofs.tree_marks.next_going.Goals as goal

padded : (n level : ℕ) → get_or (replicate n false ++ true ∷ []) level false ≡ (if nat_lt level n then false else n == level)
padded zero zero = refl
padded zero (suc level) = grind arith
padded (suc n) zero = grind arith
padded (suc n) (suc level) = grind (arith, padded n level)

resized : (old : List Bool) (depth level : ℕ)
    → get_or ((take depth old ++ replicate (depth - length old) false) ++ true ∷ []) level false
    ≡ (if nat_lt level depth then get_or old level false else depth == level)
resized [] zero level = padded zero level
resized [] (suc depth) level =
    let same : suc depth - 0 ≡ suc depth = omega arith in
    ap (λ (n : ℕ). get_or (replicate n false ++ true ∷ []) level false) same ∙ padded (suc depth) level
resized (b ∷ bs) zero zero =
    let same : 0 - length (b ∷ bs) ≡ 0 = omega arith in
    ap (λ (n : ℕ). get_or (replicate n false ++ true ∷ []) 0 false) same
resized (b ∷ bs) zero (suc level) = grind arith
resized (b ∷ bs) (suc depth) zero = grind arith
resized (b ∷ bs) (suc depth) (suc level) = grind (arith, resized bs depth level)

pub returns : goal.returns
returns c level =
    let old : List Bool = c.args.going.now.items in
    let len : vec_len c.args.going.now ≡ length old = search rules in
    ap (λ (bs : List Bool). get_or bs level false)
    (c.in_ok-push.ensures.items
    ∙ ap (λ (bs : List Bool). bs ++ true ∷ [])
    (c.in_ok-resize.ensures.items ∙ ap (λ (n : ℕ). take c.args.depth old ++ replicate (c.args.depth - n) false) len))
    ∙ resized old c.args.depth level
