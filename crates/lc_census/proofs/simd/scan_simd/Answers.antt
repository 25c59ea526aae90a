use Rattle.std.proofs.{Common.{◌≡◌, ◌+◌, ◌-◌, length, drop, sym, ap, subst, ◌∙◌, arith}, lemmas.Simd.{chunk-drop, length-chunk}}
use lib.Lanes.{chunk}
use Rattle.lc_census.specs.Scan.{after_all, HasRoom}
use Rattle.lc_census.proofs.{Counts.after_all-append, Small.room_after}
use Rattle.lc_census.proofs.simd.scan_simd.Goals as goal

pub loop-at-preserved : goal.loop-at-preserved
loop-at-preserved c =
    let at = c.loop-at.at in
    let xs = c.args.bytes.now in
    let block = chunk at 64 xs in
    let long : length block ≡ 64 = length-chunk at 64 xs (omega (arith, c.loop-at-test.true, c.loop-at.invariant.within)) in
    let split : length xs - at ≡ length block + (length xs - (at + 64)) = omega (arith, long, c.loop-at-test.true) in
    let scanned = c.scan_block.ensures in
    record {
      within = omega (arith, c.loop-at-test.true, c.loop-at.invariant.within);
      told =
          ap (λ t. after_all t (drop (at + 64) xs)) scanned
          ∙ sym (after_all-append c.loop-at.so_far block (drop (at + 64) xs))
          ∙ sym (ap (after_all c.loop-at.so_far) (chunk-drop at 64 xs))
          ∙ c.loop-at.invariant.told;
      room =
          subst (λ s. HasRoom s (length xs - (at + 64))) (sym scanned)
          (room_after c.loop-at.so_far block (length xs - (at + 64)) (subst (HasRoom c.loop-at.so_far) split c.loop-at.invariant.room));
    }
