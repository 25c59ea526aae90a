use Rattle.std.proofs.Common.{◌≡◌, ◌<◌, ℕ, List, [], ◌∷◌, ◌++◌, length, ap, refl, ◌∙◌, codes, arith, rules}
use Rattle.lc_text.specs.Visible.{visible_path}
use Rattle.lc_picture.specs.{Head.chosen_files, Pieces.{Piece, markup, name, text_of}}
use Rattle.lc_picture.proofs.Texts.{one_piece, two_texts}
use Rattle.lc_picture.proofs.head.push_chosen_files.Goals as goal

none_chosen : (t : List ℕ) → length t ≡ 0 → markup (codes " by directory") ∷ [] ≡ chosen_files t
none_chosen [] none = refl
none_chosen (b ∷ bs) none = absurd (omega arith)

some_chosen : (t : List ℕ) → 0 < length t → markup (codes " of files ") ∷ name (visible_path t) ∷ [] ≡ chosen_files t
some_chosen [] some = absurd (omega arith)
some_chosen (b ∷ bs) some = refl

pub returns-then-is_empty : goal.returns-then-is_empty
returns-then-is_empty c =
    let t0 = c.args.text.now.items in
    one_piece t0 c.extend_from_slice.new.self.items (markup (codes " by directory")) c.in_ok-extend_from_slice.ensures.items
    ∙ ap (λ (ps : List Piece). t0 ++ text_of ps) (none_chosen c.args.chosen.now (search rules))

pub returns : goal.returns
returns c =
    let t0 = c.args.text.now.items in
    let t1 = c.extend_from_slice-2.new.self.items in
    let t2 = c.push_path.new.text.items in
    let of_files : Piece = markup (codes " of files ") in
    let files : Piece = name (visible_path c.args.chosen.now) in
    two_texts t0 t1 t2 (of_files ∷ []) (files ∷ []) (one_piece t0 t1 of_files c.in_ok-extend_from_slice-2.ensures.items)
    (one_piece t1 t2 files c.in_ok-push_path.ensures)
    ∙ ap (λ (ps : List Piece). t0 ++ text_of ps) (some_chosen c.args.chosen.now (search rules))
