use Rattle.std.proofs.{Common.{◌≡◌, ◌∙◌, ◌≤◌, ◌<◌, ℕ, List, Result, Ok, Err, length, subst, ap, ap₂, ⊎_elim}, lemmas.Bool.cases_lt}
use Rattle.lc_rules.specs.{IgnoreRules.rules_of, declared.faults.RuleFault.{RuleFault, TheVariants.TooLong}, Limits.max_rule_bytes}
use Rattle.lc_paths.specs.{Checks.{CheckText.text_by, Joined.{rules_part, paths_part, joined_text}}, Styles.styled}
use Rattle.lc_io.specs.Writes.{Writes, AnswersPrint}
use Rattle.lc_paths.proofs.Checks.Stopping.{rules_stop, text_stops}
use Rattle.lc_paths.proofs.checking.check_joined.Goals as goal

-- rules that were read are not too long
not_long : {T : Type 0} (rules : T) (n : ℕ) → (max_rule_bytes < n → ◌≡◌ {A = Result T RuleFault} (Ok rules) (Err TooLong))
    → n ≤ max_rule_bytes
not_long rules n long = ⊎_elim (λ over. let e = long over in absurd (cc)) (λ fits. fits) (cases_lt max_rule_bytes n)

pub returns-in_err-rules : goal.returns-in_err-rules
returns-in_err-rules g c =
    let rules_are = c.split_joined.ensures.rules ∙ ap rules_part c.deref.ensures.value in
    rules_stop g.S.Source.may_give g.O.Sink.may_take rules_part (joined_text (styled c.args.format.style) c.args.format.end)
    c.args.input.now c.read_input.new.input c.args.out.now c.in_ok-bytes.bytes.items c.in_err-rules.field-0.0
    c.from_residual-in_err-rules.result c.from_residual-in_err-rules.ensures.1 c.in_ok-bytes.ensures
    (λ is. subst (λ (l : List ℕ). max_rule_bytes < length l) rules_are (c.in_err-rules.ensures.too_long.0 (ap Err is)))

pub returns-in_err-print : goal.returns-in_err-print
returns-in_err-print g c =
    let rules_are = c.split_joined.ensures.rules ∙ ap rules_part c.deref.ensures.value in
    let paths_are = c.split_joined.ensures.paths ∙ ap paths_part c.deref.ensures.value in
    let text = c.deref-2.ensures.value ∙ (c.in_ok-text.ensures
    ∙ ap₂ (λ rules paths. text_by (styled c.args.format.style) rules c.args.format.end paths)
    (c.in_ok-rules.ensures.ok ∙ ap rules_of rules_are) paths_are) in
    let within = subst (λ (l : List ℕ). length l ≤ max_rule_bytes) rules_are
    (not_long c.in_ok-rules.rules (length c.split_joined.result.0.now) c.in_ok-rules.ensures.too_long.1) in
    text_stops g.S.Source.may_give g.O.Sink.may_take rules_part (joined_text (styled c.args.format.style) c.args.format.end)
    c.args.input.now c.read_input.new.input c.args.out.now c.in_ok-bytes.bytes.items c.print.new.out c.in_err-print.field-0.0
    c.from_residual-in_err-print.result c.from_residual-in_err-print.ensures.1 (c.in_ok-bytes.ensures, within)
    (subst (λ (t : List ℕ). AnswersPrint g.O.Sink.may_take c.args.out.now t (Err c.in_err-print.field-0.0) c.print.new.out) text
    c.in_err-print.ensures.answers)

pub returns : goal.returns
returns g c =
    let bytes = c.in_ok-bytes.bytes.items in
    let rules_are = c.split_joined.ensures.rules ∙ ap rules_part c.deref.ensures.value in
    let paths_are = c.split_joined.ensures.paths ∙ ap paths_part c.deref.ensures.value in
    let text = c.deref-2.ensures.value ∙ (c.in_ok-text.ensures
    ∙ ap₂ (λ rules paths. text_by (styled c.args.format.style) rules c.args.format.end paths)
    (c.in_ok-rules.ensures.ok ∙ ap rules_of rules_are) paths_are) in
    let within = subst (λ (l : List ℕ). length l ≤ max_rule_bytes) rules_are
    (not_long c.in_ok-rules.rules (length c.split_joined.result.0.now) c.in_ok-rules.ensures.too_long.1) in (
      bytes,
      (c.in_ok-bytes.ensures, within),
      subst (λ (t : List ℕ). Writes g.O.Sink.may_take c.args.out.now t c.print.new.out) text c.in_ok-print.ensures.answers,
    )
