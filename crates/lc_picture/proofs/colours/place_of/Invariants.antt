use Rattle.std.proofs.Common.{◌≡◌, ◌+◌, drop, option_map}
use Rattle.lc_picture.specs.Colours.{place_of}
use Rattle.lc_picture.proofs.colours.place_of.Given as goal

abbrev pub invariant-loop-place : goal.invariant-loop-place
invariant-loop-place l =
    l.place + place_of (option_map (λ s. s.now) l.extension) (drop l.place l.rows)
    ≡ place_of (option_map (λ s. s.now) l.extension) l.rows
