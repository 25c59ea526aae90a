-- The lines of a text that is written line by line.
use Rattle.std.proofs.{Common.{arith, ◌≡◌, ℕ, true, false, ◌==◌, List, [], ◌∷◌, ◌++◌, codes, flat_map, refl, ap, ◌∙◌, append_assoc}}
use Rattle.std.proofs.{Common.append-nil, lemmas.{Grind.{common_steps, flat_map-append}, Bool.{and_parts, not-true}}}
use Rattle.std.proofs.{lemmas.List.{Elements.{All-head, All-tail}, Splits.slice_split_at}}
use Rattle.std.specs.List.{All}
use Rattle.lc_text.specs.{Lines.{with_feed, input_lines_of}}
use Rattle.lc_text.proofs.LinesOf.{input_lines_of-first}
use Rattle.lc_formats.proofs.{OneLine.{is_no_feed, is_one_line}}

-- a text is these lines, each with a line feed after it and none within
pub record IsLined (lines : List (List ℕ)) (text : List ℕ) : Type 0 where
  pub text_is : text ≡ flat_map with_feed lines
  pub each : All (λ line. is_one_line line ≡ true) lines

none_passes : (line : List ℕ) → is_one_line line ≡ true → All (λ b. (b == 10) ≡ false) line
none_passes line e = grind (arith, common_steps, and_parts, is_no_feed, is_one_line, not-true)

input_lines_of-feed : (line rest : List ℕ) → is_one_line line ≡ true → input_lines_of (line ++ 10 ∷ rest) ≡ line ∷ input_lines_of rest
input_lines_of-feed line rest e = grind (arith, common_steps, input_lines_of-first, slice_split_at, none_passes)

input_lines_of-lines : (lines : List (List ℕ)) → All (λ line. is_one_line line ≡ true) lines
    → input_lines_of (flat_map with_feed lines) ≡ lines
input_lines_of-lines [] all = refl
input_lines_of-lines (line ∷ lines) all =
    ap input_lines_of (append_assoc line (codes "\n") (flat_map with_feed lines))
    ∙ input_lines_of-feed line (flat_map with_feed lines) (All-head (λ l. is_one_line l ≡ true) line lines all)
    ∙ ap (λ (l : List (List ℕ)). line ∷ l) (input_lines_of-lines lines (All-tail (λ l. is_one_line l ≡ true) line lines all))

-- these are its lines
pub input_lines_of-lined : (lines : List (List ℕ)) (text : List ℕ) → IsLined lines text → input_lines_of text ≡ lines
input_lines_of-lined lines text is = ap input_lines_of is.text_is ∙ input_lines_of-lines lines is.each

-- two lists of lines are written one after the other
pub lined-append : (xs ys : List (List ℕ)) (a b : List ℕ) → IsLined xs a → IsLined ys b → IsLined (xs ++ ys) (a ++ b)
lined-append xs ys a b first second = grind (arith, common_steps, flat_map-append, is_one_line)

-- and one line by its bytes and a line feed
pub lined-one : (line : List ℕ) → is_one_line line ≡ true → IsLined (line ∷ []) (line ++ codes "\n")
lined-one line e = grind (arith, common_steps, append-nil, is_one_line)
