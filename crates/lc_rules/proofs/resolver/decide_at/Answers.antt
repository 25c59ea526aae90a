use Rattle.std.proofs.Common.{◌∙◌, sym}
use Rattle.lc_rules.specs.{Models.{state_model, assignment_model}, Resolving.{names_in, stacked}, KnownMacros.macros_for}
use Rattle.lc_rules.specs.KnownMacros.{macro_body_model}
use Rattle.lc_rules.proofs.{Moving.{moves_found, moves_plain, moves_seen, moves_macro, macro_to_read}, NameKeys.names_in-contains}
use Rattle.lc_rules.proofs.NameKeys.{names_in-insert}
use Rattle.lc_rules.proofs.resolver.decide_at.Goals as goal

pub returns-then-eq-clause-moves : goal.returns-then-eq-clause-moves
returns-then-eq-clause-moves c =
    let names = names_in c.args.resolver.now.decided in
    let todo = stacked c.args.resolver.now.pending.items in
    moves_found (macros_for c.args.query) c.args.query.name.now (assignment_model c.args.word) todo names todo names c.requires
    (sym c.eq.ensures ∙ c.if-eq.true)

pub returns-in_default-clause-moves : goal.returns-in_default-clause-moves
returns-in_default-clause-moves c =
    let names = names_in c.args.resolver.now.decided in
    let todo = stacked c.args.resolver.now.pending.items in
    moves_plain (macros_for c.args.query) c.args.query.name.now (assignment_model c.args.word) todo names c.requires
    (sym c.eq.ensures ∙ c.if-eq.false) c.in_default.ensures

pub returns-then-contains-clause-moves : goal.returns-then-contains-clause-moves
returns-then-contains-clause-moves c =
    let names = names_in c.args.resolver.now.decided in
    let todo = stacked c.args.resolver.now.pending.items in
    moves_seen (macros_for c.args.query) c.args.query.name.now (assignment_model c.args.word) todo names c.requires
    (names_in-contains c.args.resolver.now.decided c.args.word.name.now ∙ sym c.contains.ensures ∙ c.if-contains.true)

pub returns-clause-moves : goal.returns-clause-moves
returns-clause-moves c =
    let names = names_in c.args.resolver.now.decided in
    let todo = stacked c.args.resolver.now.pending.items in
    moves_macro (macros_for c.args.query) c.args.query.name.now c.args.word.name.now (state_model c.args.word.state) todo
    (stacked c.expand.new.pending.items) names (names_in c.insert.new.self) (macro_body_model c.in-Some.body)
    c.requires (sym c.eq.ensures ∙ c.if-eq.false)
    (names_in-contains c.args.resolver.now.decided c.args.word.name.now ∙ sym c.contains.ensures ∙ c.if-contains.false)
    c.in-Some.ensures c.in_ok-expand.ensures
    (names_in-insert c.args.word.name c.args.resolver.now.decided c.insert.new.self c.in_ok-insert.ensures.updates)

pub returns-clause-smaller : goal.returns-clause-smaller
returns-clause-smaller c =
    let names = names_in c.args.resolver.now.decided in
    let todo = stacked c.args.resolver.now.pending.items in
    macro_to_read (macros_for c.args.query) c.args.word.name.now (state_model c.args.word.state) todo
    (stacked c.expand.new.pending.items) names (names_in c.insert.new.self) (macro_body_model c.in-Some.body)
    (names_in-contains c.args.resolver.now.decided c.args.word.name.now ∙ sym c.contains.ensures ∙ c.if-contains.false)
    c.in-Some.ensures c.in_ok-expand.ensures
    (names_in-insert c.args.word.name c.args.resolver.now.decided c.insert.new.self c.in_ok-insert.ensures.updates)
