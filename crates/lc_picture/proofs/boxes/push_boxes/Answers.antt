use Rattle.std.proofs.lemmas.List.{take_rest}
use Rattle.lc_picture.proofs.Boxing.{one_box_more}
use Rattle.lc_picture.proofs.boxes.push_boxes.Goals as goal

pub loop-index-preserved : goal.loop-index-preserved
loop-index-preserved c =
    one_box_more c.args.scale c.loop-index.within c.in_ok-within.within c.loop-index.text.items c.push_box.new.text.items _
    c.index-boxes-index.result _ c.args.boxes.now _ c.loop-index.index c.loop-index-test.true c.index-boxes-index.is
    (take_rest c.args.boxes.now _) c.in_ok-within.ensures.within c.in_ok-within.ensures.text c.loop-index.invariant
