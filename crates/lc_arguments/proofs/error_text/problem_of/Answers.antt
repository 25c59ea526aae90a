use Rattle.std.proofs.{Common.{Some, None, refl, inl, inr, arith, codes}, lemmas.Str.Pattern.split_text_parts}
use Rattle.lc_arguments.proofs.Paragraphs.{none_before}
use Rattle.lc_arguments.proofs.error_text.problem_of.Goals as goal

pub returns-in-Some : goal.returns-in-Some
returns-in-Some c =
    let text = c.args.text.now in
    let found = c.in-Some.ensures.cases in
    let whole = split_text_parts (codes "\n\n") text (Some (c.in-Some.problem, c.in-Some.field-0-1)) c.in-Some.ensures.cases in
    record {
      one = none_before text c.in-Some.problem.now (codes "\n\n") found.0 found.3 found.6 (omega arith) found.2.0;
      first = inr (c.in-Some.field-0-1.now, whole);
    }

pub returns-in-None : goal.returns-in-None
returns-in-None c =
    let text = c.args.text.now in
    let whole = split_text_parts (codes "\n\n") text None c.in-None.ensures.cases in
    record { one = λ found. whole found.0 found.1 found.2; first = inl refl }
