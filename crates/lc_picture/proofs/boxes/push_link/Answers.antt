use Rattle.std.proofs.Common.{codes}
use Rattle.lc_picture.specs.Pieces.{markup, share}
use Rattle.lc_picture.proofs.Texts.{five_pieces}
use Rattle.lc_picture.proofs.boxes.push_link.Goals as goal

pub returns : goal.returns
returns c =
    five_pieces c.args.text.now.items c.extend_from_slice.new.self.items c.push_number.new.text.items
    c.extend_from_slice-2.new.self.items c.push_number-2.new.text.items c.extend_from_slice-3.new.self.items
    (markup (codes "\" id=\"b")) (share c.args.place) (markup (codes "\"><a href=\"#b")) (share c.args.place)
    (markup (codes "\" title=\"")) c.in_ok-extend_from_slice.ensures.items c.in_ok-push_number.ensures
    c.in_ok-extend_from_slice-2.ensures.items c.in_ok-push_number-2.ensures c.in_ok-extend_from_slice-3.ensures.items
