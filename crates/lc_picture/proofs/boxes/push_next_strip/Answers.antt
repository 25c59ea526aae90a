use Rattle.std.proofs.Common.{codes}
use Rattle.lc_picture.specs.Pieces.{markup, share}
use Rattle.lc_picture.proofs.Texts.{three_pieces}
use Rattle.lc_picture.proofs.boxes.push_next_strip.Goals as goal

pub returns : goal.returns
returns c =
    three_pieces c.args.text.now.items c.extend_from_slice.new.self.items c.push_number.new.text.items
    c.extend_from_slice-2.new.self.items (markup (codes "</div><div style=\"--n:")) (share c.args.number) (markup (codes "\">"))
    c.in_ok-extend_from_slice.ensures.items c.in_ok-push_number.ensures c.in_ok-extend_from_slice-2.ensures.items
