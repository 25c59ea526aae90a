use Rattle.std.proofs.Common.{sym, ap, ◌∙◌, ◌∷◌, [], List, false}
use Rattle.lc_glob.specs.{Tokens.TokenModel, Patterns.plain, Views.live_model}
use Rattle.lc_glob.proofs.SimpleBytes.{literal_bytes, suffix_bytes}
use Rattle.lc_glob.proofs.simple_pattern.name_kind.Goals as goal

pub returns-then-are_literals : goal.returns-then-are_literals
returns-then-are_literals c = λ is_dir_only.
    ap (λ (us : List TokenModel). live_model is_dir_only false (plain us ∷ []))
    (sym (literal_bytes c.args.bytes.now (sym c.are_literals.ensures ∙ c.if-are_literals.true)))

pub returns-then-are_literals-2 : goal.returns-then-are_literals-2
returns-then-are_literals-2 c = λ is_dir_only.
    ap (λ (us : List TokenModel). live_model is_dir_only false (plain us ∷ []))
    (sym (suffix_bytes c.args.bytes.now c.in-Some.rest.now c.in-Some.first.now c.in-Some.ensures.cases.0 (c.if-first-eq42.true)
    (sym c.are_literals-then-first-eq42.ensures ∙ c.if-are_literals-2.true)))
