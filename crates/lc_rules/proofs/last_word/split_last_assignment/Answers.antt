use Rattle.std.proofs.{Common.{◌∙◌, Some, None, ap, sym, rules}, lemmas.List.append-nil}
use Rattle.lc_rules.specs.{Models.{assignment_model, seen_assign}, WrittenLines.assigned}
use Rattle.lc_rules.proofs.LastWords.{assigned_last}
use Rattle.lc_rules.proofs.last_word.split_last_assignment.Goals as goal

pub returns-in-Some-read_assignment-clause-cases : goal.returns-in-Some-read_assignment-clause-cases
returns-in-Some-read_assignment-clause-cases c =
    c.words.invariant.same
    ∙ assigned_last c.words.rest.now c.in-Some.before.now c.in-Some.word.now
    (Some (assignment_model c.in-Some-read_assignment.assignment)) c.in-Some.ensures.cases
    (sym (ap seen_assign c.in-Some-read_assignment.is) ∙ c.read_assignment.ensures)

pub words-preserved : goal.words-preserved
words-preserved c = record {
  same = c.words.invariant.same
      ∙ assigned_last c.words.rest.now c.in-Some.before.now c.in-Some.word.now None c.in-Some.ensures.cases
      (sym (ap seen_assign c.in_default-read_assignment.is) ∙ c.read_assignment.ensures)
      ∙ append-nil (assigned c.in-Some.before.now);
  shorter = search rules;
}
