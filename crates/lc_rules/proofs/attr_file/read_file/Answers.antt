use Rattle.std.proofs.Common.{◌≡◌, ◌+◌, ◌-◌, ◌∙◌, ◌++◌, ℕ, List, Option, Some, refl, ap, sym, subst, arith, length, rules}
use Rattle.std.specs.{Prelude.IfSome, List.filter_map, Borrow.Bor}
use Rattle.lc_rules.specs.{AttrLines.{given_by, given_lines, macro_line, pattern_line, macro_in, line_in}, AttrWords.IsEndOf}
use Rattle.lc_rules.specs.{Models.{seen_line, attr_line_model, macro_line_model, pattern_line_model}, RuleLines.lines_left}
use Rattle.lc_rules.specs.WrittenLines.{LineTableModel, halves, line_of, line_from}
use Rattle.lc_rules.proofs.LinePlaces.{given_pattern, line_place, place_next, place_within, picks_line, passes_line}
use Rattle.lc_rules.proofs.RuleLineNumbers.{without_mark_le}
use Rattle.lc_rules.proofs.attr_file.read_file.Goals as goal

pub overflow_cast-start : goal.overflow_cast-start
overflow_cast-start c =
    let text = c.without_mark-text.result.now in
    let end : IsEndOf c.in-Some.rest.now text = subst (λ (o : Option (Bor (List ℕ))). IfSome o (λ rest. IsEndOf rest.now text))
    c.in-Some.is c.lines.invariant.place in
    let within = place_within text c.in-Some.rest.now c.cut_at_first.result.0.now c.trimmed-line.result.now
    end c.cut_at_first.ensures.before in
    omega (arith, within, without_mark_le c.args.bytes.now, ap length c.without_mark-text.ensures, c.requires)

pub push-requires-in-Some-Pattern : goal.push-requires-in-Some-Pattern
push-requires-in-Some-Pattern c =
    let text = c.without_mark-text.result.now in
    let rest = c.in-Some.rest.now in
    let whole = c.cut_at_first.result.0.now in
    let line = c.trimmed-line.result.now in
    let end : IsEndOf rest text = subst (λ (o : Option (Bor (List ℕ))). IfSome o (λ rest. IsEndOf rest.now text))
    c.in-Some.is c.lines.invariant.place in
    given_pattern c.args.top line whole (pattern_line_model c.in-Some-Pattern.found) c.trimmed-line.ensures.is
    (sym c.in_ok-read_line.ensures ∙ ap seen_line c.in-Some-Pattern.is
    ∙ ap (λ l. Some (attr_line_model l)) c.in-Some-Pattern.field-0-is)
    ∙ ap (λ l. line_of (halves l)) (sym (line_place text rest whole line end c.cut_at_first.ensures.before c.trimmed-line.ensures.end))
    ∙ ap (λ t. line_of (halves (line_from t (length text - length rest + (length whole - length line))))) (sym c.lines.invariant.text)

pub lines-preserved-in-None : goal.lines-preserved-in-None
lines-preserved-in-None c =
    let text = c.without_mark-text.result.now in
    record {
      text = search rules;
      macros = search rules;
      lines = search rules;
      place = place_next text c.in-Some.rest.now c.cut_at_first.result.0.now c.cut_at_first.result.1
          (subst (λ (o : Option (Bor (List ℕ))). IfSome o (λ rest. IsEndOf rest.now text)) c.in-Some.is c.lines.invariant.place)
          c.cut_at_first.ensures.whole;
    }

pub lines-preserved-in_ok-push-in-Some-Macro : goal.lines-preserved-in_ok-push-in-Some-Macro
lines-preserved-in_ok-push-in-Some-Macro c =
    let text = c.without_mark-text.result.now in
    let rest = c.in-Some.rest in
    let whole = c.cut_at_first.result.0.now in
    let others = c.cut_at_first.result.1 in
    let found = macro_line_model c.in-Some-Macro.found in
    let gives : given_by c.args.top c.trimmed-line.result.now ≡ Some (macro_line found) = sym c.in_ok-read_line.ensures
    ∙ ap seen_line c.in-Some-Macro.is ∙ ap (λ l. Some (attr_line_model l)) c.in-Some-Macro.field-0-is in
    record {
      text = search rules;
      macros = picks_line macro_in c.args.top c.lines.macros c.lines.left others rest whole c.trimmed-line.result.now c.in-Some.is
          c.cut_at_first.ensures.pieces c.trimmed-line.ensures.is (macro_line found) gives found refl c.lines.invariant.macros
          ∙ ap (λ l. l ++ filter_map macro_in (given_lines c.args.top (lines_left others))) (sym c.in_ok-push-in-Some-Macro.ensures);
      lines = passes_line line_in c.args.top c.lines.lines.lines c.lines.left others rest whole c.trimmed-line.result.now c.in-Some.is
          c.cut_at_first.ensures.pieces c.trimmed-line.ensures.is (macro_line found) gives refl c.lines.invariant.lines;
      place = place_next text rest.now whole others
          (subst (λ (o : Option (Bor (List ℕ))). IfSome o (λ rest. IsEndOf rest.now text)) c.in-Some.is c.lines.invariant.place)
          c.cut_at_first.ensures.whole;
    }

pub lines-preserved : goal.lines-preserved
lines-preserved c =
    let text = c.without_mark-text.result.now in
    let rest = c.in-Some.rest in
    let whole = c.cut_at_first.result.0.now in
    let others = c.cut_at_first.result.1 in
    let found = pattern_line_model c.in-Some-Pattern.found in
    let gives : given_by c.args.top c.trimmed-line.result.now ≡ Some (pattern_line found) = sym c.in_ok-read_line.ensures
    ∙ ap seen_line c.in-Some-Pattern.is ∙ ap (λ l. Some (attr_line_model l)) c.in-Some-Pattern.field-0-is in
    record {
      text = search rules;
      macros = passes_line macro_in c.args.top c.lines.macros c.lines.left others rest whole c.trimmed-line.result.now c.in-Some.is
          c.cut_at_first.ensures.pieces c.trimmed-line.ensures.is (pattern_line found) gives refl c.lines.invariant.macros;
      lines = picks_line line_in c.args.top c.lines.lines.lines c.lines.left others rest whole c.trimmed-line.result.now c.in-Some.is
          c.cut_at_first.ensures.pieces c.trimmed-line.ensures.is (pattern_line found) gives found refl c.lines.invariant.lines
          ∙ ap (λ (t : LineTableModel). t.lines ++ filter_map line_in (given_lines c.args.top (lines_left others)))
          (sym c.in_ok-push-in-Some-Pattern.ensures);
      place = place_next text rest.now whole others
          (subst (λ (o : Option (Bor (List ℕ))). IfSome o (λ rest. IsEndOf rest.now text)) c.in-Some.is c.lines.invariant.place)
          c.cut_at_first.ensures.whole;
    }
