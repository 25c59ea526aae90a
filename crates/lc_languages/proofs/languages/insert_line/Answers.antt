use Rattle.std.proofs.Common.{◌∙◌, sym, ap, refl, rules}
use Rattle.lc_languages.specs.Languages.{ending, entry_of, pattern_of, whole}
use Rattle.lc_languages.proofs.Listing.{added}
use Rattle.lc_languages.proofs.languages.insert_line.Goals as goal

pub returns-in_ok-insert-in-Some-clause-ends : goal.returns-in_ok-insert-in-Some-clause-ends
returns-in_ok-insert-in-Some-clause-ends c =
    added ending (λ a b. refl) c.in-Some.end c.unwrap_or-language.result (entry_of c.args.line.now)
    (ap pattern_of (sym c.cut_at_first.ensures.before) ∙ c.in-Some.ensures) (search rules)
    c.args.ends.now c.insert.new.self c.in_ok-insert-in-Some.ensures.updates

pub returns-in_ok-insert-in-None-clause-names : goal.returns-in_ok-insert-in-None-clause-names
returns-in_ok-insert-in-None-clause-names c =
    added whole (λ a b. refl) c.cut_at_first.result.0 c.unwrap_or-language.result (entry_of c.args.line.now)
    (ap pattern_of (sym c.cut_at_first.ensures.before) ∙ c.in-None.ensures) (search rules)
    c.args.names.now c.insert-in-None.new.self c.in_ok-insert-in-None.ensures.updates
