use Rattle.std.proofs.Common.{sym, subst, [], List}
use Rattle.lc_glob.specs.{TokenLists.is_separator, declared.token.Token.Token}
use Rattle.lc_glob.proofs.{Lexemes.{read_lexeme, read_all}, Naming.{EndsIn, ends_start}, Parts.join_start}
use Rattle.lc_glob.proofs.reading.read_tokens.Goals as goal

pub tokens-init : goal.tokens-init
tokens-init c = (
  [],
  [],
  subst (λ (xs : List Token). EndsIn is_separator xs [] []) (sym c.new-tokens.ensures.items) (ends_start is_separator),
  join_start c.args.bytes.now,
)

pub tokens-preserved : goal.tokens-preserved
tokens-preserved c =
    let is = rw c.in-Some-2.is at c.in_ok-taken.ensures.is in
    read_lexeme is.0 _ _ _ _ _ _ _ is.2 c.in-Some.ensures.cases.0 is.1 c.tokens.invariant

pub returns : goal.returns
returns c = read_all _ c.tokens.tokens.items _ c.in_default.ensures.cases c.tokens.invariant
