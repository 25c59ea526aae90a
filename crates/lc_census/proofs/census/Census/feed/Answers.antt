use Rattle.std.proofs.Common.{◌+◌, ◌<◌, ◌≤◌, ◌^◌, length, false, not, sym, ap, ◌∙◌, length-append, arith}
use Rattle.lc_census.specs.{Scan.{start, after_all}, Fed.rest_after}
use Rattle.lc_census.proofs.{Counts.after_all-append, Rest.{rest_after-append, rest_after_last}, Small.small_all}
use Rattle.lc_census.proofs.census.Census.feed.Goals as goal

pub invariant_of-self-in-len1-up : goal.invariant_of-self-in-len1-up
invariant_of-self-in-len1-up c =
    let few : c.self.inside.bytes + length c.args.piece.now ≤ 2 ^ 48 = omega (arith, c.requires, ap (λ s. s.bytes) c.self.view_is) in
    rw c.scan_simd-self-inside.ensures (small_all c.self.inside.scan c.self.inside.bytes c.args.piece.now c.self.invariant few)

pub returns-in-len1-up-clause-goes_on : goal.returns-in-len1-up-clause-goes_on
returns-in-len1-up-clause-goes_on c before h =
    let piece = c.args.piece.now in
    let kept = c.self.view_is ∙ h in
    let some : 0 < length piece = omega (arith, c.in-len1-up.len_at_least) in
    let rest = rest_after-append false before piece ∙ rest_after_last (rest_after false before) piece some in
    λ t. record {
      scan = (c.scan_simd-self-inside.ensures ∙ ap (λ s. after_all s.scan piece) kept ∙ sym (after_all-append start before piece)) t;
      bytes = (ap (λ s. s.bytes + length piece) kept ∙ sym (length-append before piece)) t;
      has_rest = (ap not c.ends_line.ensures ∙ sym rest) t;
    }
