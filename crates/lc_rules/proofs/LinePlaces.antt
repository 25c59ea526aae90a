-- What a line gives, by the text that it stands in.
use Rattle.std.proofs.Common.{◌≡◌, ◌≤◌, ◌+◌, ◌-◌, ℕ, zero, suc, Bool, true, false, cond, nat_eq, List, [], ◌∷◌, ◌++◌, length, take, drop}
use Rattle.std.proofs.{Common.{Option, Some, None, refl, sym, ◌∙◌, ap, arith, append_assoc}, Math.Seq.{drop-append_seam, drop-append-add}}
use Rattle.std.proofs.lemmas.List.{length-append, length-take}
use Rattle.std.specs.{List.{position_or_len, before_first, filter_map, cons_option}, Prelude.{not, IfSome, MatchOption}, Borrow.Bor}
use Rattle.lc_glob.specs.{Pieces.{is_byte, pieces_of, pieces_left}, Reading.pattern_of}
use Rattle.lc_rules.specs.{Attributes.AssignmentModel, AttrLines.{PatternLineModel, AttrLineModel, macro_line, pattern_line, given_by}}
use Rattle.lc_rules.specs.AttrLines.{by_words, by_quote, as_pattern, by_macro, macro_word, is_negated, trimmed, given_lines}
use Rattle.lc_rules.specs.{RuleLines.lines_left, AttrQuotes.unquoted, AttrWords.{is_white, is_name, words, assign, assigns, IsEndOf}}
use Rattle.lc_rules.specs.WrittenLines.{halves, line_of, line_from}
use Rattle.lc_rules.proofs.{LastWords.assigns_are, WordCuts.{first_word, starts_black}}

-- a line that a pattern's bytes and their words give
by_pattern_is : (bytes : List ℕ) (ws : List (List ℕ)) (n : Bool) (o : Option (List AssignmentModel)) (m : PatternLineModel)
    → assigns ws ≡ o → cond n None (as_pattern bytes o) ≡ Some (pattern_line m)
    → m ≡ record { pattern = pattern_of bytes; assigns = filter_map assign ws }
by_pattern_is bytes ws true o m is e = absurd (cc)
by_pattern_is bytes ws false None m is e = absurd (cc)
by_pattern_is bytes ws false (Some a) m is e =
    let h : m ≡ record { pattern = pattern_of bytes; assigns = a } = cc in
    h ∙ ap (λ (l : List AssignmentModel). record { pattern = pattern_of bytes; assigns = l }) (assigns_are ws a is)

by_macro_is : (top : Bool) (name : Option (List ℕ)) (w : List ℕ) (ws : List (List ℕ)) (o : Option (List AssignmentModel))
    (m : PatternLineModel) → assigns ws ≡ o → by_macro top name w o ≡ Some (pattern_line m)
    → m ≡ record { pattern = pattern_of w; assigns = filter_map assign ws }
by_macro_is top None w ws o m is e = by_pattern_is w ws (is_negated w) o m is e
by_macro_is true (Some name) w ws None m is e = absurd (cc)
by_macro_is true (Some name) w ws (Some a) m is e = absurd (named (is_name name) e)
  where
    named : (b : Bool) → cond b (Some (macro_line (name, a))) None ≡ Some (pattern_line m) → ⊥
    named true q = cc
    named false q = cc
by_macro_is false (Some name) w ws o m is e = absurd (cc)

by_quote_is : (o : Option (List ℕ × List ℕ)) (m : PatternLineModel) → by_quote o ≡ Some (pattern_line m) → m ≡ line_of o
by_quote_is None m e = absurd (cc)
by_quote_is (Some r) m e = by_pattern_is r.0 (words r.1) (is_negated r.0) (assigns (words r.1)) m refl e

-- a line with a pattern says what its halves say
pub given_pattern : (top : Bool) (line whole : List ℕ) (m : PatternLineModel) → line ≡ trimmed whole
    → given_by top line ≡ Some (pattern_line m) → m ≡ line_of (halves line)
given_pattern top [] whole m t e = absurd (cc)
given_pattern top (b ∷ bs) whole m t e = commented (nat_eq b 35) (nat_eq b 34) e
  where
    words_are : words (b ∷ bs) ≡ before_first is_white (b ∷ bs) ∷ words (drop (position_or_len is_white (b ∷ bs)) (b ∷ bs))
    words_are = first_word (b ∷ bs) b bs refl (starts_black whole b bs (sym t))

    commented : (c q : Bool) → cond c None (cond q (by_quote (unquoted 0 bs)) (by_words top (words (b ∷ bs)))) ≡ Some (pattern_line m)
        → m ≡ line_of (cond q (unquoted 0 bs) (Some (before_first is_white (b ∷ bs), drop (position_or_len is_white (b ∷ bs)) (b ∷ bs))))
    commented true q h = absurd (cc)
    commented false true h = by_quote_is (unquoted 0 bs) m h
    commented false false h =
        let ws = words (drop (position_or_len is_white (b ∷ bs)) (b ∷ bs)) in
        by_macro_is top (macro_word (before_first is_white (b ∷ bs))) (before_first is_white (b ∷ bs)) ws (assigns ws) m refl
        (sym (ap (by_words top) words_are) ∙ h)

first_yes : (p : ℕ → Bool) (x : ℕ) (xs : List ℕ) → p x ≡ true → position_or_len p (x ∷ xs) ≡ 0
first_yes p x xs e = ap (λ t. cond (not t) (1 + position_or_len p xs) 0) e

first_no : (p : ℕ → Bool) (x : ℕ) (xs : List ℕ) → p x ≡ false → position_or_len p (x ∷ xs) ≡ suc (position_or_len p xs)
first_no p x xs e = ap (λ t. cond (not t) (1 + position_or_len p xs) 0) e ∙ one_more (position_or_len p xs)
  where
    one_more : (n : ℕ) → 1 + n ≡ suc n
    one_more n = omega arith

-- the end of a line is its end wherever one begins to read it
pub before_first-drop : (p : ℕ → Bool) (k : ℕ) (xs : List ℕ) → k ≤ length (before_first p xs)
    → before_first p (drop k xs) ≡ drop k (before_first p xs)
before_first-drop p zero xs h = refl
before_first-drop p (suc k) [] h = refl
before_first-drop p (suc k) (x ∷ xs) h = by_cases (p x) refl (before_first-drop p k xs)
  where
    by_cases : (t : Bool) → p x ≡ t → (k ≤ length (before_first p xs) → before_first p (drop k xs) ≡ drop k (before_first p xs))
        → before_first p (drop k xs) ≡ drop (suc k) (take (position_or_len p (x ∷ xs)) (x ∷ xs))
    by_cases true e more = absurd (let n : length (take (position_or_len p (x ∷ xs)) (x ∷ xs)) ≡ 0
        = ap (λ i. length (take i (x ∷ xs))) (first_yes p x xs e) in omega (arith, h, n))
    by_cases false e more =
        let n : take (position_or_len p (x ∷ xs)) (x ∷ xs) ≡ x ∷ before_first p xs = ap (λ i. take i (x ∷ xs)) (first_no p x xs e) in
        more (omega (arith, h, ap length n)) ∙ ap (drop (suc k)) (sym n)

-- bytes at the end of others stand after as many as these have more
end_drop : (rest whole : List ℕ) → IsEndOf rest whole → drop (length whole - length rest) whole ≡ rest
end_drop rest whole h =
    let n : length whole - length rest ≡ length h.0 = omega (arith, ap length h.1, length-append h.0 rest) in
    ap (λ k. drop k whole) n ∙ ap (drop (length h.0)) h.1 ∙ drop-append_seam h.0 rest

-- a line that is trimmed stands at this place of its text
pub line_place : (text rest whole line : List ℕ) → IsEndOf rest text → whole ≡ before_first (is_byte 10) rest → IsEndOf line whole
    → line_from text (length text - length rest + (length whole - length line)) ≡ line
line_place text rest whole line h w e =
    let k : ℕ = length whole - length line in
    let n : length text - length rest + k ≡ length h.0 + k = omega (arith, ap length h.1, length-append h.0 rest) in
    ap (λ i. before_first (is_byte 10) (drop i text)) n
    ∙ ap (λ l. before_first (is_byte 10) (drop (length h.0 + k) l)) h.1
    ∙ ap (before_first (is_byte 10)) (drop-append-add h.0 rest k)
    ∙ before_first-drop (is_byte 10) k rest (omega (arith, ap length w))
    ∙ ap (drop k) (sym w) ∙ end_drop line whole e

-- what follows the line feed of a line stands at the end of the text
pub place_next : (text rest whole : List ℕ) (others : Option (Bor (List ℕ))) → IsEndOf rest text
    → MatchOption others (rest ≡ whole) (λ r. rest ≡ whole ++ (10 ∷ r.now)) → IfSome others (λ r. IsEndOf r.now text)
place_next text rest whole None h e = tt
place_next text rest whole (Some r) h e = (
  h.0 ++ (whole ++ (10 ∷ [])),
  h.1 ∙ ap (λ l. h.0 ++ l) e
      ∙ ap (λ l. h.0 ++ l) (sym (append_assoc whole (10 ∷ []) r.now)) ∙ sym (append_assoc h.0 (whole ++ (10 ∷ [])) r.now),
)

-- and so does what follows one byte
pub end_more : (left rest whole : List ℕ) (b : ℕ) → left ≡ b ∷ rest → IsEndOf left whole → IsEndOf rest whole
end_more left rest whole b e h = (h.0 ++ (b ∷ []), h.1 ∙ ap (λ l. h.0 ++ l) e ∙ sym (append_assoc h.0 (b ∷ []) rest))

-- that place is within the text
pub place_within : (text rest whole line : List ℕ) → IsEndOf rest text → whole ≡ before_first (is_byte 10) rest
    → length text - length rest + (length whole - length line) ≤ length text
place_within text rest whole line h w =
    omega (arith, ap length h.1, length-append h.0 rest, ap length w, length-take (position_or_len (is_byte 10) rest) rest)

-- what lines give, picked one line more
module _ {A : Type 0} (pick : AttrLineModel → Option A) (top : Bool) (before : List A) (left others : Option (Bor (List ℕ)))
    (rest : Bor (List ℕ)) (whole line : List ℕ) (is : left ≡ Some rest) (pieces : pieces_of 10 rest.now ≡ whole ∷ pieces_left 10 others)
    (same : line ≡ trimmed whole) (found : AttrLineModel) (gives : given_by top line ≡ Some found) where
  one_more_line : filter_map pick (given_lines top (lines_left left))
      ≡ cons_option (pick found) (filter_map pick (given_lines top (lines_left others)))
  one_more_line =
      ap (λ o. filter_map pick (given_lines top (lines_left o))) is
      ∙ ap (λ ls. filter_map pick (given_lines top ls)) pieces
      ∙ ap (λ l. filter_map pick (cons_option (given_by top l) (given_lines top (lines_left others)))) (sym same)
      ∙ ap (λ o. filter_map pick (cons_option o (given_lines top (lines_left others)))) gives

  -- one is picked
  pub picks_line : {whole_list : List A} (a : A) → pick found ≡ Some a
      → whole_list ≡ before ++ filter_map pick (given_lines top (lines_left left))
      → whole_list ≡ (before ++ (a ∷ [])) ++ filter_map pick (given_lines top (lines_left others))
  picks_line a e h =
      h ∙ ap (λ l. before ++ l) (one_more_line ∙ ap (λ o. cons_option o (filter_map pick (given_lines top (lines_left others)))) e)
      ∙ sym (append_assoc before (a ∷ []) (filter_map pick (given_lines top (lines_left others))))

  -- it is passed
  pub passes_line : {whole_list : List A} → pick found ≡ None
      → whole_list ≡ before ++ filter_map pick (given_lines top (lines_left left))
      → whole_list ≡ before ++ filter_map pick (given_lines top (lines_left others))
  passes_line e h = h ∙ ap (λ l. before ++ l)
      (one_more_line ∙ ap (λ o. cons_option o (filter_map pick (given_lines top (lines_left others)))) e)
