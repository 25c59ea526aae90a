use Rattle.std.proofs.Common.{length-take, length-drop, sym, ◌∙◌, arith}
use Rattle.lc_glob.proofs.Items.{items_step}
use Rattle.lc_glob.proofs.bracket.push_items.Goals as goal

pub items-preserved : goal.items-preserved
items-preserved c =
    let inv = c.items.invariant in
    let is = rw c.in-Some-2.is at c.in_ok-taken.ensures.is in
    let fits = rw c.in-Some-2.is at c.in_ok-taken.ensures.within in
    record {
      has = items_step _ _ _ _ _ _ _ _ _ _ inv.has c.in-Some.ensures.cases.0 inv.within (sym c.closes.ensures ∙ c.if-closes.false) is fits;
      within = simp (length-take, length-drop) (omega (arith, c.in-Some.ensures.cases.1));
    }
