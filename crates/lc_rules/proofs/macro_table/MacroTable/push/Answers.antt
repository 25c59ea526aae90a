use Rattle.std.proofs.Common.{◌≡◌, ◌∙◌, sym, ap, cond, [], ◌∷◌, ◌++◌, Some, rules}
use Rattle.std.specs.Str.{bytes_eq}
use Rattle.lc_rules.specs.{MacroPlaces.place_in, declared.macro_table.Macro.Macro as CodeMacro}
use Rattle.lc_rules.proofs.{LastMacro.has_places-push, NameKeys.place_in-insert}
use Rattle.lc_rules.proofs.macro_table.MacroTable.push.Goals as goal

pub invariant_of-self-2 : goal.invariant_of-self-2
invariant_of-self-2 c = λ n.
    let m : CodeMacro = record { name = c.in_ok-name.name; assignments = c.in_ok-assignments.assignments } in
    let is : c.in_ok-key.key.items ≡ c.in_ok-name.name.items
    = c.in_ok-key.ensures.items_if_clones_equal (λ x y e. e) ∙ sym (c.in_ok-name.ensures.items_if_clones_equal (λ x y e. e)) in
    place_in-insert c.in_ok-key.key c.len.result c.self.inside.places c.insert.new.self c.in_ok-insert.ensures.updates n
    ∙ ap (λ name. cond (bytes_eq name n) (Some c.len.result) (place_in c.self.inside.places n)) is
    ∙ ap (cond (bytes_eq m.name.items n) (Some c.len.result)) (c.self.invariant n)
    ∙ has_places-push c.self.inside.defined.items c.push_reserved.new.self.items m c.len.result n
    (c.push_reserved.ensures.items ∙ ap (λ l. l ++ (m ∷ [])) c.in_ok-reserve.ensures.items)
    (search rules)
