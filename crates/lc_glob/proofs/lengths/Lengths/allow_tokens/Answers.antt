use Rattle.std.proofs.{Common.arith, lemmas.Bool.le-leb}
use Rattle.lc_glob.proofs.Sizing.{literals_between, suffix_between}
use Rattle.lc_glob.proofs.lengths.Lengths.allow_tokens.Goals as goal

pub returns-in-Literal : goal.returns-in-Literal
returns-in-Literal c = λ f.
    let both = literals_between _ _ (rw c.in-Literal.is at f) in
    c.has.ensures (omega (arith, both.0)) (omega (arith, both.1))

pub returns-in-Suffix : goal.returns-in-Suffix
returns-in-Suffix c = λ f.
    let most = suffix_between _ _ (rw c.in-Suffix.is at f) in
    le-leb _ _ (omega (arith, most))
