-- A board of words is started: its first pass, and one pass more.
use Rattle.std.proofs.Common.{◌≡◌, ◌<◌, ◌≤◌, ◌+◌, ◌-◌, ◌++◌, ◌∷◌, ◌∙◌, ℕ, false, List, [], Option, Some, None, length, replicate, slice_get}
use Rattle.std.proofs.{Common.{slice_set, refl, sym, ap, subst, arith}, lemmas.List.{length-replicate, length-set}}
use Rattle.lc_board.specs.{Pass.new_pass, WordPass.IsTied, WordHistory.Seated, WordSteps.{view_before_split, kept_by_split, given_by_split}}
use Rattle.lc_board.specs.{WordsBoard.{IsPassOf, Owns, IsSamePass, known, told}, declared.words.{Words.Words, pass.WordsPass.WordsPass}}
use Rattle.lc_board.specs.declared.words.view.View.{View}
use Rattle.lc_board.proofs.Places.{each_set, each_push, get_push_other, get_set_same}

-- the words or the slots of a board are as many as its numbers
pub row_length : {A : Type 0} (first other : A) (capacity : ℕ) (row : List A) → row ≡ first ∷ replicate (capacity - 1) other
    → 1 ≤ capacity → length row ≡ capacity
row_length first other capacity row is some =
    let n = length-replicate (capacity - 1) other in omega (arith, ap length is, n)

module _ {J R : Type 0} where
  -- the first pass has claimed nothing
  pub tied_first : (slots workers : ℕ) (root : Option J) (m : Seated J R) → m ≡ (view_before_split root workers, []) → 1 ≤ slots
      → IsTied slots 0 None 0 1 0 m
  tied_first slots workers root m is some = subst (λ z. IsTied slots 0 None 0 1 0 z) (sym is) (record {
    live = refl;
    idle = refl;
    numbered = refl;
    fronted = refl;
    lowered = refl;
    holds = refl;
    posts_are = refl;
    carries = refl;
    near = omega arith;
    within = some;
    inside = λ i e. absurd cc;
    lower = omega arith;
  })

  abbrev IsNew : Words J R → ℕ → WordsPass J R → Type 0
  IsNew b w p = Owns b p × (told p ≡ new_pass w) × ((known p).seen ≡ [])

  -- one pass more of those that are started
  pub one_more : (b : Words J R) (items : List (WordsPass J R)) (n workers : ℕ) (first first' other : WordsPass J R)
      → slice_get items 0 ≡ Some first → length items ≡ n → 0 < n
      → IsSamePass first first' → known first' ≡ kept_by_split (known first) → IsPassOf b other → other.worker ≡ n → other.full ≡ false
      → known other ≡ given_by_split (known first)
      → ((w : ℕ) (p : WordsPass J R) → slice_get items w ≡ Some p → IsNew b w p)
      → ((known first).made ≡ n) × ((known first).workers ≡ workers)
      → ((w : ℕ) (p : WordsPass J R) → slice_get (slice_set items 0 first' ++ other ∷ []) w ≡ Some p → IsNew b w p)
      × ((p : WordsPass J R) → slice_get (slice_set items 0 first' ++ other ∷ []) 0 ≡ Some p
      → ((known p).made ≡ n + 1) × ((known p).workers ≡ workers))
  one_more b items n workers first first' other at len some same me own number empty new each deals =
      let ds : List (WordsPass J R) = slice_set items 0 first' in
      let low : 0 < length items = omega (arith, len, some) in
      let size : length (slice_set items 0 first') ≡ n = length-set items 0 first' ∙ len in
      let was = each 0 first at in
      let mine_first : (known first').mine ≡ (known first).mine = ap (λ (v : View J R). v.mine) me in
      let told_first : told first' ≡ told first =
      (λ i. record { worker = same.1 i; mine = mine_first i; full = same.2 i; refused = false }) in
      let mine_other : (known other).mine ≡ [] = ap (λ (v : View J R). v.mine) new in
      let worker_other : other.worker ≡ length (slice_set items 0 first') = number ∙ sym size in
      let told_other : told other ≡ new_pass (length (slice_set items 0 first')) =
      (λ i. record { worker = worker_other i; mine = mine_other i; full = empty i; refused = false }) in
      let board_first : Owns b first' = (same.0 ∙ was.0.0, (same.3 ∙ was.0.1.0, same.4 ∙ was.0.1.1)) in
      let board_other : Owns b other =
      (own, (ap (λ (v : View J R). v.workers) new ∙ was.0.1.0, ap (λ (v : View J R). v.root) new ∙ was.0.1.1)) in (
        each_push (λ w o. (p : WordsPass J R) → o ≡ Some p → IsNew b w p) (slice_set items 0 first') other
            (λ p e. let is : other ≡ p = cc e in subst (λ q. IsNew b (length (slice_set items 0 first')) q) is
            (board_other, told_other, ap (λ (v : View J R). v.seen) new))
            (λ k _. each_set (λ w o. (p : WordsPass J R) → o ≡ Some p → IsNew b w p) items 0 first' low
            (λ p e. let is : first' ≡ p = cc e in subst (λ q. IsNew b 0 q) is
            (board_first, told_first ∙ was.1, ap (λ (v : View J R). v.seen) me ∙ was.2))
            (λ q off p e. each q p e) k),
        λ p e.
            let there : slice_get (slice_set items 0 first' ++ other ∷ []) 0 ≡ Some first' = get_push_other
            (slice_set items 0 first') other 0 (λ z. absurd (omega (arith, z, size, some))) ∙ get_set_same items 0 first' low in
            let x : Some first' ≡ Some p = sym there ∙ e in
            let is : first' ≡ p = cc x in
            subst (λ q. ((known q).made ≡ n + 1) × ((known q).workers ≡ workers)) is
            (ap (λ (v : View J R). v.made) me ∙ ap (λ k. k + 1) deals.0, ap (λ (v : View J R). v.workers) me ∙ deals.1),
      )
