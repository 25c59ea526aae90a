use Rattle.std.proofs.Common.{arith}
use Rattle.lc_picture.proofs.Texts.{closed}
use Rattle.lc_picture.proofs.boxes.push_closings.Goals as goal

pub boxes-preserved : goal.boxes-preserved
boxes-preserved c =
    closed c.boxes.text.items c.extend_from_slice.new.self.items _ c.boxes.rest (omega (arith, c.boxes-test.true))
    c.in_ok-extend_from_slice.ensures.items c.boxes.invariant
