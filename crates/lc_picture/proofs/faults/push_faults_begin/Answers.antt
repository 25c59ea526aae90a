use Rattle.std.proofs.Common.{codes}
use Rattle.lc_picture.specs.Pieces.{count, markup}
use Rattle.lc_picture.proofs.Texts.{three_pieces}
use Rattle.lc_picture.proofs.faults.push_faults_begin.Goals as goal

pub returns : goal.returns
returns c =
    three_pieces c.args.text.now.items c.extend_from_slice.new.self.items c.push_count.new.text.items
    c.extend_from_slice-2.new.self.items (markup (codes "<p>What could not be read is not in the picture. Errors: "))
    (count c.args.all) (markup (codes "</p>\n<ul>\n")) c.in_ok-extend_from_slice.ensures.items c.in_ok-push_count.ensures
    c.in_ok-extend_from_slice-2.ensures.items
