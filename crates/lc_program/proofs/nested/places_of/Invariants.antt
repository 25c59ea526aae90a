use Rattle.std.proofs.Common.{◌≡◌, List, ℕ, Option, map, take}
use Rattle.std.specs.List.{AllZip}
use Rattle.lc_program.specs.Nested.{places_of}
use Rattle.lc_program.proofs.nested.places_of.Given as goal

abbrev pub invariant-loop-name : goal.invariant-loop-name
invariant-loop-name g l =
    let names = map (λ name. name.now) (take l.name-index l.names) in
    (paths : List (Option (List ℕ))) × AllZip (g.Y.System.stands l.system) names paths × (l.places.items ≡ places_of names paths)
