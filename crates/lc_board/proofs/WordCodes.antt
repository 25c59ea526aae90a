-- A code is read as the word that it is of, and what a word says of its number.
use Rattle.std.proofs.Common.{◌≡◌, ◌≢◌, ℕ, ◌+◌, ◌*◌, ◌-◌, ◌/◌, ◌%◌, ◌==◌, ◌≤◌, Bool, true, false, cond, refl, ap, ◌∙◌, arith}
use Rattle.std.specs.Prelude.{MatchBool}
use Rattle.lc_board.specs.{Growth.rank, WordCode.{shown, code, busy_word, word_of, is_absent, is_open, has_ended}}
use Rattle.lc_board.specs.declared.words.coding.Word.{Word}
use Rattle.lc_board.proofs.Places.{at_same, at_other}
use Rattle.lc_board.specs.declared.words.coding.Word.TheVariants as word

half_of : (w : ℕ) → (4 + 2 * w - 4) / 2 ≡ w
half_of w = omega arith

half_of_odd : (w : ℕ) → (5 + 2 * w - 4) / 2 ≡ w
half_of_odd w = omega arith

even_code : (w : ℕ) → (4 + 2 * w) % 2 ≡ 0
even_code w = omega arith

odd_code : (w : ℕ) → (5 + 2 * w) % 2 ≡ 1
odd_code w = omega arith

from_four : (n : ℕ) → 4 ≤ n → word_of n ≡ busy_word n
from_four n far = at_other n 0 word.Absent (cond (n == 1) word.Open
    (cond (n == 2) word.Returned (cond (n == 3) word.Faulted (busy_word n)))) (λ e. absurd (omega arith))
    ∙ (at_other n 1 word.Open (cond (n == 2) word.Returned (cond (n == 3) word.Faulted (busy_word n))) (λ e. absurd (omega arith))
    ∙ (at_other n 2 word.Returned (cond (n == 3) word.Faulted (busy_word n)) (λ e. absurd (omega arith)) ∙ at_other n 3 word.Faulted
    (busy_word n) (λ e. absurd (omega arith))))

-- a word's code is read as the word
pub decoded : (c : Word) → word_of (code c) ≡ c
decoded (word.Drawn w) = from_four (4 + 2 * w) (omega arith)
    ∙ (at_same ((4 + 2 * w) % 2) 0 (word.Drawn ((4 + 2 * w - 4) / 2)) (word.Claimed ((4 + 2 * w - 4) / 2)) (even_code w)
    ∙ ap word.Drawn (half_of w))
decoded (word.Claimed w) = from_four (5 + 2 * w) (omega arith)
    ∙ (at_other ((5 + 2 * w) % 2) 0 (word.Drawn ((5 + 2 * w - 4) / 2)) (word.Claimed ((5 + 2 * w - 4) / 2))
    (λ e. let o = odd_code w in absurd (omega arith)) ∙ ap word.Claimed (half_of_odd w))
decoded _ = refl

-- the only word that is absent
pub absent_is : (c : Word) → is_absent c ≡ true → c ≡ word.Absent
absent_is word.Absent e = refl
absent_is _ e = absurd cc

-- the only word that is open
pub open_is : (c : Word) → is_open c ≡ true → c ≡ word.Open
open_is word.Open e = refl
open_is _ e = absurd cc

-- another word is not absent
pub not_absent : (c : Word) → c ≢ word.Absent → is_absent c ≡ false
not_absent word.Absent n = absurd (n refl)
not_absent _ n = refl

-- another word is not open
pub not_open : (c : Word) → c ≢ word.Open → is_open c ≡ false
not_open word.Open n = absurd (n refl)
not_open _ n = refl

-- a word that has ended shows a number that has
pub ended_rank : (c : Word) → has_ended c ≡ true → rank (shown c) ≡ 3
ended_rank word.Returned e = refl
ended_rank word.Faulted e = refl
ended_rank _ e = absurd cc

-- of two cases the first holds
pub match_true : (b : Bool) (A B : Type 0) → b ≡ true → MatchBool b A B → A
match_true true A B e x = x
match_true false A B e x = absurd cc

-- of two cases the second holds
pub match_false : (b : Bool) (A B : Type 0) → b ≡ false → MatchBool b A B → B
match_false true A B e x = absurd cc
match_false false A B e x = x
