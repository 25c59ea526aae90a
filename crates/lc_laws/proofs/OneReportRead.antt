-- In the text of a report that was printed one report is read.
use Rattle.std.proofs.lemmas.Grind.{common_steps}
use Rattle.std.proofs.Common.{◌≡◌, ◌∙◌, ◌<◌, ℕ, List, [], ◌∷◌, ◌++◌, Some, codes, length, refl, sym, ap, append_assoc, arith}
use Rattle.std.specs.List.{flat_map}
use Rattle.json.specs.{Json.{Json, Members, document, object}, Lex.{after_value, between, fresh, lex, punctuate, tokens}, Token.Token}
use Rattle.json.specs.{Token.begin_object, Tree.{json_tokens, members_tokens}}
use Rattle.lc_reading.specs.{Members.members_with, Texts.{AreReportTexts, AreReportsOf, IsReportText}}
use Rattle.lc_laws.proofs.TokensApart.{nothing_lexed, object_first, one_object_first}
use Rattle.lc_walk.specs.declared.report.Report.{Report}

-- no token is in a line feed
no_more : punctuate after_value (lex between (codes "\n")) ≡ []
unfolding punctuate lex
no_more = refl

-- an object at the beginning of a line of one object is that object, and nothing is after it
first_is_line : (line text rest : List ℕ) (ns ms : Members) → document line ≡ Some (object ns) → document text ≡ Some (object ms)
    → line ++ codes "\n" ≡ text ++ rest → (object ns ≡ object ms) × (lex between rest ≡ [])
first_is_line line text rest ns ms line_is text_is whole =
    let same : json_tokens (object ns) ++ [] ≡ json_tokens (object ms) ++ punctuate after_value (lex between rest) =
    ap (λ (ts : List Token). json_tokens (object ns) ++ ts) (sym no_more) ∙ sym (object_first line (codes "\n") ns line_is)
    ∙ ap tokens whole ∙ object_first text rest ms text_is in
    let both = one_object_first ns ms [] (punctuate after_value (lex between rest)) same in
    (both.0, nothing_lexed (lex between rest) (sym both.1))

-- what has no lexeme begins with no object
no_object : (text more : List ℕ) (ms : Members) → document text ≡ Some (object ms) → lex between (text ++ more) ≡ [] → ⊥
unfolding punctuate
no_object text more ms is none =
    let never : begin_object ∷ (members_tokens ms ++ punctuate after_value (lex between more)) ≡ [] =
    sym (object_first text more ms is) ∙ ap (punctuate fresh) none in cc

-- the one report, which is in the line
pub record OneReport (attributes : List (List ℕ)) (line : List ℕ) (reports : List Report) : Type 0 where
  pub read : Report
  pub one : reports ≡ read ∷ []
  pub is : IsReportText attributes line read

module _ (attributes : List (List ℕ)) (line blank : List ℕ) (ns : Members) (line_is : document line ≡ Some (object ns)) where
  one_of : (texts : List (List ℕ)) (reports : List Report) → line ++ codes "\n" ≡ flat_map (λ t. t) texts ++ blank
      → AreReportTexts attributes texts reports → 0 < length reports → OneReport attributes line reports
  one_of [] [] whole each some = absurd (omega arith)
  one_of [] (q ∷ qs) whole each some = absurd each
  one_of (t ∷ ts) [] whole each some = absurd each
  one_of (t ∷ []) (q ∷ []) whole each some =
      let own : IsReportText attributes t q = each.0 in
      let both = first_is_line line t ([] ++ blank) ns (members_with own.members) line_is own.value_is
      (whole ∙ append_assoc t [] blank) in record {
        read = q;
        one = refl;
        is = record { members = own.members; value_is = line_is ∙ ap (λ (j : Json). Some j) both.0; is = own.is };
      }
  one_of (t ∷ []) (q ∷ p ∷ ps) whole each some = absurd each.1
  one_of (t ∷ u ∷ us) (q ∷ []) whole each some = absurd each.1
  one_of (t ∷ u ∷ us) (q ∷ p ∷ ps) whole each some =
      let own : IsReportText attributes t q = each.0 in
      let next : IsReportText attributes u p = each.1.0 in
      let both = first_is_line line t (flat_map (λ t. t) (u ∷ us) ++ blank) ns (members_with own.members) line_is own.value_is
      (whole ∙ append_assoc t (flat_map (λ t. t) (u ∷ us)) blank) in
      let left : lex between (u ++ (flat_map (λ t. t) us ++ blank)) ≡ [] =
      ap (lex between) (sym (append_assoc u (flat_map (λ t. t) us) blank)) ∙ both.1 in
      absurd (no_object u (flat_map (λ t. t) us ++ blank) (members_with next.members) next.value_is left)

pub one_report : (attributes : List (List ℕ)) (line text : List ℕ) (ns : Members) (reports : List Report) → document line ≡ Some (object ns)
    → text ≡ line ++ codes "\n" → AreReportsOf attributes text reports → OneReport attributes line reports
one_report attributes line text ns reports line_is text_is are = grind (arith, common_steps, one_of)
