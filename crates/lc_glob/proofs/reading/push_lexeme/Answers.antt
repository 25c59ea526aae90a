use Rattle.std.proofs.{Common.{ℕ, ap}, lemmas.Result.IfOk-weaker}
use Rattle.lc_glob.specs.{Reading.{lexeme}}
use Rattle.lc_glob.proofs.Lexemes.{bracket_lexeme}
use Rattle.lc_glob.proofs.reading.push_lexeme.Goals as goal

pub returns-then-b-eq91-clause-is : goal.returns-then-b-eq91-clause-is
returns-then-b-eq91-clause-is c =
    let is = ap (λ (b : ℕ). lexeme b c.args.rest.now) c.if-b-eq91.true in
    IfOk-weaker c.push_bracket.result _ _ (λ r pushed. bracket_lexeme _ _ _ _ r is pushed) c.push_bracket.ensures.is
