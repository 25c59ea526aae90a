-- The rules of a file and the numbers of their lines.
use Rattle.std.proofs.Common.{◌≡◌, ◌≤◌, ◌+◌, ℕ, Bool, true, false, cond, ◌==◌, List, [], ◌∷◌, ◌++◌, Option, Some, None, length, refl, sym}
use Rattle.std.proofs.{Common.{◌∙◌, ap, subst, arith, append_assoc, length-append}, Math.Seq.get_or-append_seam}
use Rattle.std.proofs.lemmas.List.{Elements.{All-cons, All-nil}, Splits.length-slice_split, Sums.count_by-le-length}
use Rattle.std.specs.List.{All, filter_map, cons_option, enumerate_from}
use Rattle.lc_rules.specs.{IgnoreRules.{RuleModel, text_of_line, plain_rule, negated_rule, rule_from, rule_of_line}, IgnoreLaws.IsOnLine}
use Rattle.lc_rules.specs.{IgnoreLaws.LinesLaw, RuleLines.{without_mark, lines_of}}

-- a file without its mark is no longer
pub without_mark_le : (bytes : List ℕ) → length (without_mark bytes) ≤ length bytes
without_mark_le [] = omega arith
without_mark_le (a ∷ []) = omega arith
without_mark_le (a ∷ b ∷ []) = omega arith
without_mark_le (a ∷ b ∷ c ∷ rest) = grind arith

-- a file has at most one line more than bytes
pub few_lines : (bytes : List ℕ) → length (lines_of bytes) ≤ length bytes + 1
few_lines bytes = omega (
  arith,
  length-slice_split (λ b. b == 10) (without_mark bytes),
  count_by-le-length (λ b. b == 10) (without_mark bytes),
  without_mark_le bytes,
)

signed_line : (n : ℕ) (b : ℕ) (bs : List ℕ) (c : Bool) → (cond c (negated_rule n bs) (plain_rule n (b ∷ bs))).line ≡ n
signed_line n b bs true = refl
signed_line n b bs false = refl

-- the rule of a line has its number
from_line : (n : ℕ) (text : List ℕ) (r : RuleModel) → rule_from n text ≡ Some r → r.line ≡ n
from_line n [] r e = absurd (cc)
from_line n (b ∷ bs) r e = at (b == 35) e
  where
    at : (c : Bool) → cond c None (Some (cond (b == 33) (negated_rule n bs) (plain_rule n (b ∷ bs)))) ≡ Some r → r.line ≡ n
    at true h = absurd (cc)
    at false h =
        let same : cond (b == 33) (negated_rule n bs) (plain_rule n (b ∷ bs)) ≡ r = cc in
        sym (ap (λ x. x.line) same) ∙ signed_line n b bs (b == 33)

-- one line more, with its rule
on_line_more : (lines : List (List ℕ)) (rules : List RuleModel) (found : Option RuleModel)
    → ((r : RuleModel) → found ≡ Some r → IsOnLine lines r)
    → All (IsOnLine lines) rules → All (IsOnLine lines) (cons_option found rules)
on_line_more lines rules None here others = others
on_line_more lines rules (Some r) here others = All-cons (IsOnLine lines) r rules (here r refl) others

on_lines : (before lines : List (List ℕ)) (n : ℕ) → n ≡ length before + 1
    → All (IsOnLine (before ++ lines)) (filter_map rule_of_line (enumerate_from n lines))
on_lines before [] n e = All-nil (IsOnLine (before ++ []))
on_lines before (l ∷ ls) n e =
    let others = subst (λ (all : List (List ℕ)). All (IsOnLine all) (filter_map rule_of_line (enumerate_from (n + 1) ls)))
    (append_assoc before (l ∷ []) ls)
    (on_lines (before ++ l ∷ []) ls (n + 1) (omega (arith, length-append before (l ∷ [])))) in
    on_line_more (before ++ l ∷ ls) (filter_map rule_of_line (enumerate_from (n + 1) ls)) (rule_of_line (n, l))
    (λ r given. let number = from_line n (text_of_line l) r given in
    record {
      place = length before;
      within = omega (arith, length-append before (l ∷ ls));
      counted = number ∙ e;
      given = ap (λ line. rule_of_line (r.line, line)) (get_or-append_seam before l ls [])
          ∙ ap (λ m. rule_of_line (m, l)) number ∙ given;
    })
    others

-- each rule of a file is that of the line with its number
pub on_their_lines : LinesLaw
on_their_lines bytes = on_lines [] (lines_of bytes) 1 refl
