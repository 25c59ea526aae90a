use Rattle.std.proofs.{Common.{sym, ◌∙◌}}
use Rattle.lc_glob.specs.{TokenLists.is_separator}
use Rattle.lc_glob.proofs.Naming.{cut_last, none_last}
use Rattle.lc_glob.proofs.element.TokenElement.cut_at_last_separator.Goals as goal

pub returns-then-is_separator : goal.returns-then-is_separator
returns-then-is_separator c =
    let inv = c.tokens.invariant in
    cut_last is_separator _ _ _ inv.0 _ inv.1 c.in-Some.ensures.cases.0 (sym c.is_separator.ensures ∙ c.if-is_separator.true) inv.2

pub returns : goal.returns
returns c =
    let inv = c.tokens.invariant in
    none_last is_separator _ _ inv.0 inv.1 c.in_default.ensures.cases inv.2
