use Rattle.std.proofs.Common.{ℕ, ◌++◌, ap, ◌∙◌, codes, decimal}
use Rattle.lc_picture.specs.{Chart.line_colour, Pieces.{markup, share}}
use Rattle.lc_picture.proofs.Texts.{three_pieces}
use Rattle.lc_picture.proofs.chart.push_coloured.Goals as goal

pub returns : goal.returns
returns c =
    three_pieces c.args.text.now.items c.extend_from_slice.new.self.items c.push_number.new.text.items
    c.extend_from_slice-2.new.self.items (markup (codes "<tr class=\"e")) (share (line_colour c.args.place))
    (markup (codes "\">")) c.in_ok-extend_from_slice.ensures.items
    (c.in_ok-push_number.ensures ∙ ap (λ (n : ℕ). c.extend_from_slice.new.self.items ++ decimal n) c.min.ensures)
    c.in_ok-extend_from_slice-2.ensures.items
