use Rattle.std.proofs.Common.{sym, ap, ◌∙◌}
use Rattle.std.specs.List.{list_any}
use Rattle.lc_glob.specs.{Tokens.is_star, Views.tokens_ref_model}
use Rattle.lc_glob.proofs.Above.{literals_no_star}
use Rattle.lc_glob.proofs.segment_ref.TokensRef.has_star.Goals as goal

pub returns-in-Literal : goal.returns-in-Literal
returns-in-Literal c = sym (ap (λ t. list_any is_star (tokens_ref_model t)) c.in-Literal.is ∙ literals_no_star c.in-Literal.field-0.now)
