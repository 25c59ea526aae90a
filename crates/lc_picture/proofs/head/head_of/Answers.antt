use Rattle.std.proofs.Common.{ℕ, List, ◌++◌, ap, ◌∙◌, codes}
use Rattle.lc_sheet.specs.Sheets.{SheetModel}
use Rattle.lc_picture.specs.{Head.{figures_end, figures_of, head_part, heading, page_top}, Pieces.{markup, text_of}}
use Rattle.lc_picture.proofs.Texts.{one_piece, two_texts}
use Rattle.lc_picture.proofs.head.head_of.Goals as goal

pub returns : goal.returns
returns g c =
    let t0 = c.new-text.result.items in
    let t1 = c.push_page_top.new.text.items in
    let t2 = c.push_heading.new.text.items in
    let t3 = c.push_figures_of.new.text.items in
    let t4 = c.extend_from_slice.new.self.items in
    let named = c.args.title.now in
    let chosen = c.args.chosen.now in
    let by = c.args.by in
    let totals = c.args.sheet.now.totals in
    two_texts t0 t1 t4 (page_top named chosen by) (heading named chosen by ++ (figures_of totals ++ figures_end))
    c.in_ok-push_page_top.ensures
    (two_texts t1 t2 t4 (heading named chosen by) (figures_of totals ++ figures_end) c.in_ok-push_heading.ensures
    (two_texts t2 t3 t4 (figures_of totals) figures_end
    (c.in_ok-push_figures_of.ensures ∙ ap (λ (s : SheetModel). t2 ++ text_of (figures_of s.totals)) c.sheet.view_is)
    (one_piece t3 t4 (markup (codes "</dl>\n")) c.in_ok-extend_from_slice.ensures.items)))
    ∙ ap (λ (t : List ℕ). t ++ text_of (head_part named chosen by totals)) c.new-text.ensures.items
