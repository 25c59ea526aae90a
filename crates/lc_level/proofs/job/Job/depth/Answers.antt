use Rattle.std.proofs.Common.{◌≤◌, ℕ, length, arith, ap, Vec}
use Rattle.std.specs.declared.alloc.Global.{Global}
use Rattle.lc_level.proofs.Depths.{depth_few}
use Rattle.lc_level.proofs.job.Job.depth.Goals as goal

pub overflow_cast-result : goal.overflow_cast-result
overflow_cast-result c =
    let short : length c.behind-self.inside.path.value.items ≤ 4096 = c.behind-self.invariant in
    omega (
      arith,
      c.depth_of.ensures,
      depth_few c.as_slice.result.now,
      ap length c.as_slice.ensures.value,
      ap (λ (v : Vec ℕ Global). length v.items) c.deref-2.ensures,
    )
