use Rattle.std.proofs.Common.{◌≡◌, ◌<◌, ◌∙◌, sym, ap, ℕ, List, Some, map, length, get_or, rules}
use Rattle.lc_rules.specs.{Attributes.MacroModel, Models.macro_model, WrittenLines.assigned, Decision.macro_of}
use Rattle.lc_rules.proofs.LastMacro.{at_last_place, no_place}
use Rattle.lc_rules.proofs.macro_table.MacroTable.find.Goals as goal

pub returns-in-None : goal.returns-in-None
returns-in-None c = ap (λ (l : List MacroModel). macro_of l c.args.name.now) (sym c.self.view_is)
    ∙ no_place (map macro_model c.self.inside.defined.items) c.args.name.now
    (sym (c.self.invariant c.args.name.now) ∙ sym c.in-None.ensures.value)

pub index-requires : goal.index-requires
index-requires c =
    let at = at_last_place c.self.inside.defined.items c.args.name.now c.in-Some.place.now
    (sym (c.self.invariant c.args.name.now) ∙ sym c.in-Some.ensures.value) in
    let below : c.in-Some.place.now < length c.self.inside.defined.items = at.below in
    search rules

pub returns-in-Some : goal.returns-in-Some
returns-in-Some c =
    let at = at_last_place c.self.inside.defined.items c.args.name.now c.in-Some.place.now
    (sym (c.self.invariant c.args.name.now) ∙ sym c.in-Some.ensures.value) in
    let same : (get_or c.self.inside.defined.items c.in-Some.place.now c.index.result.now).assignments.items
    ≡ c.as_slice.result.now = search rules in
    ap (λ (l : List MacroModel). macro_of l c.args.name.now) (sym c.self.view_is) ∙ at.body c.index.result.now
    ∙ ap (λ (l : List ℕ). Some (assigned l)) same
