use Rattle.std.proofs.{Common.{Bool, List, ℕ, Bor, sym, ◌∙◌, ap, cond, eq-eqb}, lemmas.Bool.{ne_eqb, or_left}}
use Rattle.lc_glob.proofs.{Fronts.false_left, Items.bracket_pushed}
use Rattle.lc_glob.proofs.bracket.push_bracket.Goals.{then-b-eq33, else-b-eq33, then-negated, else-negated}
use Rattle.lc_glob.proofs.bracket.push_bracket.Goals as goal

pub returns-clause-is : goal.returns-clause-is
returns-clause-is c =
    let bytes = c.args.bytes.now in
    let rest = c.in-Some.rest.now in
    let pushed = rw c.in-Some-2.is at c.in_ok-taken.ensures.is in
    bracket_pushed bytes rest c.if-negated.push_items.now c.in-Some.b.now c.if-b-eq33.negated _ _ _ _ _ c.in-Some.ensures.cases.0
    (elim c.if-b-eq33.branch [
      | then-b-eq33 w ↦ let is = eq-eqb _ _ w.if-b-eq33.true in or_left _ _ is ∙ sym (w.negated-is ∙ is)
      | else-b-eq33 w ↦ sym (false_left _ _ _ (ne_eqb _ _ w.if-b-eq33.false) w.negated-is)
    ])
    (elim c.if-negated.branch [
      | then-negated w ↦ ap (λ (b : Bor (List ℕ)). b.now) w.push_items-is ∙ sym (ap (λ (t : Bool). cond t rest bytes) w.if-negated.true)
      | else-negated w ↦ ap (λ (b : Bor (List ℕ)). b.now) w.push_items-is ∙ sym (ap (λ (t : Bool). cond t rest bytes) w.if-negated.false)
    ]) c.from.ensures c.in_ok-push.ensures.items pushed
