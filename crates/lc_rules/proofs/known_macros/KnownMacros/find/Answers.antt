use Rattle.std.proofs.Common.{◌∙◌, [], ◌∷◌, ◌++◌, Some, None, rules}
use Rattle.lc_rules.specs.{AttrStates.binary, WrittenLines.assigned, KnownMacros.defined_in}
use Rattle.lc_rules.proofs.LastMacro.{macro_later, macro_earlier}
use Rattle.lc_rules.proofs.known_macros.KnownMacros.find.Goals as goal

pub returns-in-Some : goal.returns-in-Some
returns-in-Some c =
    let macros = c.args.self in
    macro_later (binary ∷ []) (defined_in macros.lowest ++ defined_in macros.top) (defined_in macros.info) c.args.name.now
    (assigned c.in-Some.assignments.now) c.in-Some.ensures

pub returns-in-Some-find_in : goal.returns-in-Some-find_in
returns-in-Some-find_in c =
    let macros = c.args.self in
    let body = assigned c.in-Some-find_in.assignments.now in
    macro_earlier (binary ∷ []) (defined_in macros.lowest ++ defined_in macros.top) (defined_in macros.info) c.args.name.now (Some body)
    c.in_default.ensures
    (macro_later [] (defined_in macros.lowest) (defined_in macros.top) c.args.name.now body c.in-Some-find_in.ensures)

pub returns-in-Some-find_in-2 : goal.returns-in-Some-find_in-2
returns-in-Some-find_in-2 c =
    let macros = c.args.self in
    let body = Some (assigned c.in-Some-find_in-2.assignments.now) in
    macro_earlier (binary ∷ []) (defined_in macros.lowest ++ defined_in macros.top) (defined_in macros.info) c.args.name.now body
    c.in_default.ensures
    (macro_earlier [] (defined_in macros.lowest) (defined_in macros.top) c.args.name.now body c.in_default-find_in.ensures
    c.in-Some-find_in-2.ensures)

pub returns-then-eq : goal.returns-then-eq
returns-then-eq c =
    let macros = c.args.self in
    macro_earlier (binary ∷ []) (defined_in macros.lowest ++ defined_in macros.top) (defined_in macros.info) c.args.name.now None
    c.in_default.ensures
    (macro_earlier [] (defined_in macros.lowest) (defined_in macros.top) c.args.name.now None c.in_default-find_in.ensures
    c.in_default-find_in-2.ensures)
    ∙ search rules

pub returns : goal.returns
returns c =
    let macros = c.args.self in
    macro_earlier (binary ∷ []) (defined_in macros.lowest ++ defined_in macros.top) (defined_in macros.info) c.args.name.now None
    c.in_default.ensures
    (macro_earlier [] (defined_in macros.lowest) (defined_in macros.top) c.args.name.now None c.in_default-find_in.ensures
    c.in_default-find_in-2.ensures)
    ∙ search rules
