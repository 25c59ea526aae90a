-- The numbers of the boxes right in a box add up to its own.
use Rattle.std.proofs.Common.{◌≡◌, ℕ, ◌+◌, ◌-◌, ◌<◌, ◌≤◌, ◌==◌, ◌&&◌, nat_le, nat_lt, Bool, true, false, if◌then◌else◌, List, [], ◌∷◌, refl, ap}
use Rattle.std.proofs.Common.{ap₂, ◌∙◌, arith}
use Rattle.lc_rows.specs.ShownRows.{number_in}
use Rattle.lc_sheet.specs.declared.column.Number.{Number, TheVariants.{Files, Lines, Blank, Bytes}}
use Rattle.lc_walk.specs.declared.tally.sums.Sums.{Sums}
use Rattle.lc_picture.specs.{Boxes.BoxModel, Rests.{after_deeper, has_rest, holds_box, left_beside, minus, rest_in, rest_of}}
use Rattle.lc_picture.specs.{Rests.with_rests, Tree.first_levels, TreeLaws.{AddUp, SumsLaw, TreeSumsLaw, number_inside}}

-- ---- one box more, after those that are as deep or deeper

inside_put : (by : Number) (depth : ℕ) (x : BoxModel) (bs : List BoxModel)
    → number_inside by depth (after_deeper x bs) ≡ (if x.depth == depth + 1 then number_in by x.sums else 0) + number_inside by depth bs
inside_put by depth x [] = grind arith
inside_put by depth x (b ∷ bs) = grind (arith, inside_put by depth x bs)

inside_high : (by : Number) (depth : ℕ) (x : BoxModel) (bs : List BoxModel) → x.depth ≤ depth
    → number_inside by depth (after_deeper x bs) ≡ number_inside by depth bs
inside_high by depth x bs high = grind (arith, inside_put by depth x bs)

held_put : (depth : ℕ) (x : BoxModel) (bs : List BoxModel) → x.depth ≤ depth → holds_box depth (after_deeper x bs) ≡ true
    → holds_box depth bs ≡ true
held_put depth x [] high held = grind arith
held_put depth x (b ∷ bs) high held = grind arith

one_put : (by : Number) (x b : BoxModel) (bs : List BoxModel) (higher : Bool) → nat_lt b.depth x.depth ≡ higher → AddUp by (b ∷ bs)
    → AddUp by (after_deeper x bs) → AddUp by (if higher then x ∷ b ∷ bs else b ∷ after_deeper x bs)
one_put by x b bs true e up put = (λ held. grind arith, up)
one_put by x b bs false e up put = (
  λ held.
      let high : x.depth ≤ b.depth = grind arith in
      inside_high by b.depth x bs high ∙ up.0 (held_put b.depth x bs high held),
  put,
)

put_adds : (by : Number) (x : BoxModel) (bs : List BoxModel) → AddUp by bs → AddUp by (after_deeper x bs)
put_adds by x [] up = (λ held. grind arith, up)
put_adds by x (b ∷ bs) up = one_put by x b bs (nat_lt b.depth x.depth) refl up (put_adds by x bs up.1)

-- ---- the number of a rest

number_minus : (by : Number) (s t : Sums) → number_in by (minus s t) ≡ number_in by s - number_in by t
number_minus Files s t = refl
number_minus Lines s t = refl
number_minus Blank s t = refl
number_minus Bytes s t = refl

left_step : (by : Number) (depth : ℕ) (s t : Sums) (bs : List BoxModel) (ends right_in : Bool)
    → number_in by (left_beside depth (if right_in then minus s t else s) bs)
    ≡ number_in by (if right_in then minus s t else s) - number_inside by depth bs
    → number_in by (if ends then s else left_beside depth (if right_in then minus s t else s) bs)
    ≡ number_in by s - (if ends then 0 else (if right_in then number_in by t else 0) + number_inside by depth bs)
left_step by depth s t bs true right_in next = omega arith
left_step by depth s t bs false true next =
    next ∙ ap (λ (n : ℕ). n - number_inside by depth bs) (number_minus by s t) ∙ omega arith
left_step by depth s t bs false false next = next ∙ omega arith

left_is : (by : Number) (depth : ℕ) (s : Sums) (bs : List BoxModel)
    → number_in by (left_beside depth s bs) ≡ number_in by s - number_inside by depth bs
left_is by depth s [] = omega arith
left_is by depth s (b ∷ bs) =
    left_step by depth s b.sums bs (nat_le b.depth depth) (b.depth == depth + 1)
    (left_is by depth (if b.depth == depth + 1 then minus s b.sums else s) bs)

-- ---- boxes with their rests

is_more : (m n : ℕ) → nat_le m n ≡ false → n < m
is_more m n e = grind arith

is_none : (n : ℕ) → nat_le 1 n ≡ false → n ≡ 0
is_none n e = grind arith

inside_deep : (by : Number) (depth : ℕ) (x : BoxModel) (bs : List BoxModel) → depth + 1 < x.depth
    → number_inside by depth (after_deeper x bs) ≡ number_inside by depth bs
inside_deep by depth x bs deep = grind (arith, inside_put by depth x bs)

inside_right : (by : Number) (depth : ℕ) (x : BoxModel) (bs : List BoxModel) → x.depth ≡ depth + 1
    → number_inside by depth (after_deeper x bs) ≡ number_in by x.sums + number_inside by depth bs
inside_right by depth x bs right_in = grind (arith, inside_put by depth x bs)

one_rest : (by : Number) (depth : ℕ) (b : BoxModel) (bs made : List BoxModel) (ends some : Bool) → nat_le b.depth depth ≡ ends
    → number_inside by depth made ≡ number_inside by depth bs
    → (if ends then 0 else (if b.depth == depth + 1 then number_in by b.sums else 0)
    + number_inside by depth (if some then after_deeper (rest_of b (rest_in b bs)) made else made))
    ≡ (if ends then 0 else (if b.depth == depth + 1 then number_in by b.sums else 0) + number_inside by depth bs)
one_rest by depth b bs made true some e next = refl
one_rest by depth b bs made false true e next =
    let deeper = is_more b.depth depth e in
    ap (λ (n : ℕ). (if b.depth == depth + 1 then number_in by b.sums else 0) + n)
    (inside_deep by depth (rest_of b (rest_in b bs)) made (omega arith) ∙ next)
one_rest by depth b bs made false false e next = ap (λ (n : ℕ). (if b.depth == depth + 1 then number_in by b.sums else 0) + n) next

-- the rests of boxes inside a box are not right in it
inside_rests : (by : Number) (depth : ℕ) (bs : List BoxModel) → number_inside by depth (with_rests by bs) ≡ number_inside by depth bs
inside_rests by depth [] = refl
inside_rests by depth (b ∷ bs) =
    one_rest by depth b bs (with_rests by bs) (nat_le b.depth depth) (has_rest by b bs) refl (inside_rests by depth bs)

held_rests : (by : Number) (depth : ℕ) (bs : List BoxModel) → holds_box depth (with_rests by bs) ≡ holds_box depth bs
held_rests by depth [] = refl
held_rests by depth (b ∷ bs) = refl

rest_adds : (by : Number) (b : BoxModel) (bs : List BoxModel) (holds some : Bool) → holds_box b.depth bs ≡ holds
    → nat_le 1 (number_in by (rest_in b bs)) ≡ some → number_inside by b.depth bs ≤ number_in by b.sums → AddUp by (with_rests by bs)
    → AddUp by (b ∷ (if holds && some then after_deeper (rest_of b (rest_in b bs)) (with_rests by bs) else with_rests by bs))
rest_adds by b bs true true holds some fits up =
    let x : BoxModel = rest_of b (rest_in b bs) in
    let made : List BoxModel = with_rests by bs in
    let left : number_in by (rest_in b bs) ≡ number_in by b.sums - number_inside by b.depth bs = left_is by b.depth b.sums bs in (
      λ held.
          inside_right by b.depth x made refl
          ∙ ap₂ (λ (m n : ℕ). m + n) left (inside_rests by b.depth bs) ∙ omega arith,
      put_adds by x made up,
    )
rest_adds by b bs true false holds some fits up =
    let left : number_in by (rest_in b bs) ≡ number_in by b.sums - number_inside by b.depth bs = left_is by b.depth b.sums bs in
    let none = is_none (number_in by (rest_in b bs)) some in
    (λ held. inside_rests by b.depth bs ∙ omega arith, up)
rest_adds by b bs false some holds e fits up =
    let none : holds_box b.depth (with_rests by bs) ≡ false = held_rests by b.depth bs ∙ holds in
    (λ held. absurd (cc), up)

pub sums_law : SumsLaw
sums_law by [] fit = fit
sums_law by (b ∷ bs) fit =
    rest_adds by b bs (holds_box b.depth bs) (nat_le 1 (number_in by (rest_in b bs))) refl refl fit.0 (sums_law by bs fit.1)

-- ---- the first levels

inside_levels : (by : Number) (levels depth : ℕ) (bs : List BoxModel) → depth < levels
    → number_inside by depth (first_levels levels bs) ≡ number_inside by depth bs
inside_levels by levels depth [] within = refl
inside_levels by levels depth (b ∷ bs) within = grind (arith, inside_levels by levels depth bs within)

one_within : (levels depth : ℕ) (b : BoxModel) (bs : List BoxModel) (kept : Bool) → nat_le b.depth levels ≡ kept
    → (holds_box depth (first_levels levels bs) ≡ true → depth < levels)
    → holds_box depth (if kept then b ∷ first_levels levels bs else first_levels levels bs) ≡ true → depth < levels
one_within levels depth b bs true e next held = grind arith
one_within levels depth b bs false e next held = next held

held_within : (levels depth : ℕ) (bs : List BoxModel) → holds_box depth (first_levels levels bs) ≡ true → depth < levels
held_within levels depth [] held = grind arith
held_within levels depth (b ∷ bs) held =
    one_within levels depth b bs (nat_le b.depth levels) refl (held_within levels depth bs) held

held_before : (levels depth : ℕ) (bs : List BoxModel) → depth < levels → holds_box depth (first_levels levels bs) ≡ true
    → holds_box depth bs ≡ true
held_before levels depth [] within held = held
held_before levels depth (b ∷ bs) within held = grind arith

kept_adds : (by : Number) (levels : ℕ) (b : BoxModel) (bs : List BoxModel) (kept : Bool) → AddUp by (b ∷ bs)
    → AddUp by (first_levels levels bs) → AddUp by (if kept then b ∷ first_levels levels bs else first_levels levels bs)
kept_adds by levels b bs true up next = (
  λ held.
      let within = held_within levels b.depth bs held in
      inside_levels by levels b.depth bs within ∙ up.0 (held_before levels b.depth bs within held),
  next,
)
kept_adds by levels b bs false up next = next

pub tree_sums_law : TreeSumsLaw
tree_sums_law by levels [] up = up
tree_sums_law by levels (b ∷ bs) up = kept_adds by levels b bs (nat_le b.depth levels) up (tree_sums_law by levels bs up.1)
