use Rattle.std.proofs.Common.{map}
use Rattle.lc_program.proofs.NestedPlaces.{apart_of, nested_of}
use Rattle.lc_program.proofs.nested.refuse_unless_apart.Goals as goal

pub returns-clause-apart : goal.returns-clause-apart
returns-clause-apart g c = λ done.
    apart_of (g.Y.System.stands c.args.system.now) (map (λ name. name.now) c.args.names.now) c.in_ok-places.places.items
    c.deref.result.now c.sort.new.places.items c.in_ok-places.ensures c.sort.ensures.same c.deref.ensures.value
    (c.refuse_nested.ensures.apart done)

pub returns-clause-nested : goal.returns-clause-nested
returns-clause-nested g c =
    nested_of (g.Y.System.stands c.args.system.now) (map (λ name. name.now) c.args.names.now) c.in_ok-places.places.items
    c.deref.result.now c.sort.new.places.items c.refuse_nested.result c.in_ok-places.ensures c.sort.ensures.same c.deref.ensures.value
    c.refuse_nested.ensures.nested
