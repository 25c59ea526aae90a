-- Rules and paths, cut at the first line of dashes.
use Rattle.std.proofs.Common.{◌≡◌, ℕ, ◌<◌, ◌+◌, ◌-◌, ◌++◌, ◌||◌, ◌∙◌, Bool, true, false, cond, List, [], ◌∷◌, length, take, drop, get_or}
use Rattle.std.proofs.{Common.{sym, ap, arith, append_assoc, length-append}, Math.Seq.{take-append_seam, drop-append-add}}
use Rattle.std.proofs.{Math.Seq.get_or-append_seam, lemmas.{Bool.false_from_ne_true, Grind.flat_map-append}}
use Rattle.std.proofs.lemmas.List.{get_or_append_left, append-nil, Folds.{list_any-append, list_any_at}, Sums.position_or_len_is}
use Rattle.std.proofs.lemmas.List.Splits.{join_with_byte-slice_split}
use Rattle.std.specs.List.{list_any, flat_map, position_or_len, before_first, after_first, join_with_byte}
use Rattle.lc_glob.specs.Pieces.{pieces_of}
use Rattle.lc_paths.specs.Checks.Joined.{is_dashes, rules_part, paths_part}
use Rattle.lc_text.specs.Lines.{with_feed}

true_is_false : true ≡ false → ⊥
true_is_false e = cc

each_fails : (p : List ℕ → Bool) (xs : List (List ℕ)) → list_any p xs ≡ false → (k : ℕ) (d : List ℕ) → k < length xs
    → p (get_or xs k d) ≡ false
each_fails p xs none k d low = false_from_ne_true _ (λ t. true_is_false (sym (list_any_at p xs k d low t) ∙ none))

-- a list whose first element that passes stands between these
module _ (p : List ℕ → Bool) (front : List (List ℕ)) (line : List ℕ) (more : List (List ℕ)) (plain : list_any p front ≡ false)
    (passes : p line ≡ true) where
  position_or_len-first : position_or_len p (front ++ line ∷ more) ≡ length front
  position_or_len-first =
      position_or_len_is p (front ++ line ∷ more) (length front) []
      (omega (arith, length-append front (line ∷ more)))
      (λ k low. ap p (get_or_append_left front (line ∷ more) [] k low) ∙ each_fails p front plain k [] low)
      (λ low. ap p (get_or-append_seam front line more []) ∙ passes)

  -- what stands before the first line of dashes
  pub before_first-is : before_first p (front ++ line ∷ more) ≡ front
  before_first-is = ap (λ n. take n (front ++ line ∷ more)) position_or_len-first ∙ take-append_seam front (line ∷ more)

  -- what stands after it
  pub after_first-is : after_first p (front ++ line ∷ more) ≡ more
  after_first-is = ap (λ n. drop (n + 1) (front ++ line ∷ more)) position_or_len-first ∙ drop-append-add front (line ∷ more) 1

  -- there is one
  pub list_any-is : list_any p (front ++ line ∷ more) ≡ true
  list_any-is =
      list_any-append p front (line ∷ more) ∙ (ap (λ b. b || list_any p (line ∷ more)) plain ∙ ap (λ b. b || list_any p more) passes)

-- the parts, by the lines
abbrev rules_by : List ℕ → List (List ℕ) → List ℕ
rules_by bytes pieces = cond (list_any is_dashes pieces) (flat_map with_feed (before_first is_dashes pieces)) bytes

abbrev paths_by : List (List ℕ) → List ℕ
paths_by pieces = cond (list_any is_dashes pieces) (join_with_byte 10 (after_first is_dashes pieces)) []

module _ (bytes : List ℕ) (front : List (List ℕ)) (left : List ℕ) (line : List ℕ) (more : List (List ℕ))
    (whole : bytes ≡ flat_map with_feed front ++ left) (pieces : pieces_of 10 bytes ≡ front ++ line ∷ more)
    (plain : list_any is_dashes front ≡ false) where
  front_length : length bytes - length left ≡ length (flat_map with_feed front)
  front_length = omega (arith, ap length whole, length-append (flat_map with_feed front) left)

  -- at a line of dashes, the rules stand before it
  pub rules_part-at : is_dashes line ≡ true → take (length bytes - length left) bytes ≡ rules_part bytes
  rules_part-at dashes =
      ap (λ n. take n bytes) front_length ∙ (ap (λ l. take (length (flat_map with_feed front)) l) whole
      ∙ (take-append_seam (flat_map with_feed front) left
      ∙ sym (ap (rules_by bytes) pieces
      ∙ (ap (λ b. cond b (flat_map with_feed (before_first is_dashes (front ++ line ∷ more))) bytes)
      (list_any-is is_dashes front line more plain dashes)
      ∙ ap (flat_map with_feed) (before_first-is is_dashes front line more plain dashes)))))

  -- and the paths after it
  pub paths_part-at : is_dashes line ≡ true → join_with_byte 10 more ≡ paths_part bytes
  paths_part-at dashes =
      sym (ap paths_by pieces
      ∙ (ap (λ b. cond b (join_with_byte 10 (after_first is_dashes (front ++ line ∷ more))) [])
      (list_any-is is_dashes front line more plain dashes)
      ∙ ap (join_with_byte 10) (after_first-is is_dashes front line more plain dashes)))

  -- one line more is no line of dashes
  pub plain_more : is_dashes line ≡ false → list_any is_dashes (front ++ line ∷ []) ≡ false
  plain_more other =
      list_any-append is_dashes front (line ∷ []) ∙ (ap (λ b. b || list_any is_dashes (line ∷ [])) plain ∙ ap (λ b. b || false) other)

  -- one line more before what is left
  pub whole_more : (rest : List ℕ) → left ≡ line ++ 10 ∷ rest → bytes ≡ flat_map with_feed (front ++ line ∷ []) ++ rest
  whole_more rest cut =
      whole ∙ (ap (λ l. flat_map with_feed front ++ l) (cut ∙ sym (append_assoc line (10 ∷ []) rest))
      ∙ (sym (append_assoc (flat_map with_feed front) (with_feed line) rest)
      ∙ ap (λ l. l ++ rest) (sym (flat_map-append with_feed front (line ∷ []) ∙ ap (λ l. flat_map with_feed front ++ l)
      (append-nil (with_feed line))))))

  -- one line more of those that are no dashes
  pub pieces_more : pieces_of 10 bytes ≡ (front ++ line ∷ []) ++ more
  pieces_more = pieces ∙ sym (append_assoc front (line ∷ []) more)

-- the paths after a line feed
pub paths_joined : (rest : List ℕ) → rest ≡ join_with_byte 10 (pieces_of 10 rest)
paths_joined rest = sym (join_with_byte-slice_split 10 rest)
