use Rattle.lc_program.proofs.NamesTaken.{place_pushed}
use Rattle.lc_program.proofs.nested.places_of.Goals as goal

pub loop-name-preserved : goal.loop-name-preserved
loop-name-preserved g c =
    place_pushed (g.Y.System.stands c.args.system.now) c.args.names.now c.loop-name.name-index _ c.loop-name.places.items
    c.push_place.new.places.items c.loop-name-test.true c.loop-name.invariant c.in_ok-push_place.ensures
