use Rattle.std.proofs.Common.{codes}
use Rattle.lc_picture.specs.Pieces.{count, markup}
use Rattle.lc_picture.proofs.Texts.{three_pieces}
use Rattle.lc_picture.proofs.faults.push_more_line.Goals as goal

pub returns : goal.returns
returns c =
    three_pieces c.args.text.now.items c.extend_from_slice.new.self.items c.push_count.new.text.items
    c.extend_from_slice-2.new.self.items (markup (codes "<li>and ")) (count c.args.n) (markup (codes " more</li>\n"))
    c.in_ok-extend_from_slice.ensures.items c.in_ok-push_count.ensures c.in_ok-extend_from_slice-2.ensures.items
