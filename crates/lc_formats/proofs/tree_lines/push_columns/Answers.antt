use Rattle.std.proofs.Common.{◌≡◌, ℕ, List, [], ◌∷◌, ◌++◌, append_assoc, ap₂, ◌∙◌, refl, string_bytes}
use Rattle.lc_formats.specs.{Cells.cell_model, Columns.{CellModel, text_before}}
use Rattle.lc_formats.proofs.tree_lines.push_columns.Goals as goal

six_pushed : (t0 t1 t2 t3 t4 t5 t6 a b c d e f : List ℕ) → t1 ≡ t0 ++ a → t2 ≡ t1 ++ b → t3 ≡ t2 ++ c → t4 ≡ t3 ++ d → t5 ≡ t4 ++ e
    → t6 ≡ t5 ++ f → t6 ≡ t0 ++ (a ++ (b ++ (c ++ (d ++ (e ++ f)))))
six_pushed t0 t1 t2 t3 t4 t5 t6 a b c d e f e1 e2 e3 e4 e5 e6 = rw (e6, e5, e4, e3, e2, e1) (simp append_assoc refl)

pub returns : goal.returns
returns c =
    let at : List ℕ → CellModel → ℕ → List ℕ = λ t k w. t ++ text_before (cell_model c.new.result ∷ []) k.side w k.text in
    let t0 = string_bytes c.args.row.now in
    let t2 = string_bytes c.push_str.new.self in
    let t4 = string_bytes c.push_str-2.new.self in
    six_pushed t0 (string_bytes c.push_before.new.text) t2 (string_bytes c.push_before-2.new.text) t4
    (string_bytes c.push_before-3.new.text) (string_bytes c.push_str-3.new.self) _ _ _ _ _ _
    (c.in_ok-push_before.ensures ∙ ap₂ (at t0) c.new-number.ensures c.width.ensures) c.in_ok-push_str.ensures.bytes
    (c.in_ok-push_before-2.ensures ∙ ap₂ (at t2) c.new-share.ensures c.width-2.ensures) c.in_ok-push_str-2.ensures.bytes
    (c.in_ok-push_before-3.ensures ∙ ap₂ (at t4) c.new-bar.ensures c.width-3.ensures) c.in_ok-push_str-3.ensures.bytes
