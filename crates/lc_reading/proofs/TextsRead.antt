-- Texts that are cut and read one after another.
use Rattle.std.proofs.{lemmas.{Grind.common_steps, List.Concat.flat_map-append}, Common.{◌≡◌, ◌∙◌, ℕ, List, [], ◌∷◌, ◌++◌, sym, ap}}
use Rattle.std.proofs.Common.{append_assoc, append-nil, Option, Some, option_and_then, false, arith, Result, Ok, Err}
use Rattle.std.specs.{List.flat_map, Prelude.{IfOk, MatchOption, is_some}}
use Rattle.json.specs.{Json.{Json, document, if_last, max_depth, object, skip_value, value}, Lex.tokens, Token.Token, Tree.depth}
use Rattle.json.specs.Tree.{json_tokens}
use Rattle.json.proofs.{Found.{Some_inj, one_reading}, Grammar.left_some, Printed.Trees.value-json_tokens}
use Rattle.lc_reading.specs.{Members.{Member, members_with}, Objects.{IsObjectOf, TakesObject}, Reports.IsReportOf, Texts.AreReportTexts}
use Rattle.lc_reading.specs.{Texts.{IsJson, IsReportText}, declared.object.Object.Object}
use Rattle.lc_walk.specs.declared.report.Report.{Report}

pub json_is : (text : List ℕ) (rest : List Token) → skip_value max_depth (tokens text) ≡ Some rest → rest ≡ [] → IsJson text
json_is text rest e none = grind (arith, common_steps, left_some)

read_whole : (o : Option (Json × List Token)) (j : Json) → option_and_then (λ p. if_last p.0 p.1) o ≡ Some j → o ≡ Some (j, [])
read_whole o j e = grind (arith, common_steps)

-- where the tokens of a text are those of a value, it is the value
same_value : (text : List ℕ) (j k : Json) → document text ≡ Some j → tokens text ≡ json_tokens k ++ [] → j ≡ k
same_value text j k is tokens_are =
    let read : value max_depth (tokens text) ≡ Some (j, []) = read_whole (value max_depth (tokens text)) j is in
    let spelled : value (depth k) (tokens text) ≡ Some (k, []) = ap (value (depth k)) tokens_are
    ∙ value-json_tokens k (depth k) [] (omega arith) in
    ap (λ (p : Json × List Token). p.0) (Some_inj (j, []) (k, []) (one_reading max_depth (depth k) (tokens text) (j, []) (k, []) read
    spelled))

pub report_text : (attributes : List (List ℕ)) (text : List ℕ) (o : Object) (rest : List Token) (r : Report) → IsJson text
    → TakesObject attributes o (tokens text) rest → rest ≡ []
    → ((ms : List Member) → IsObjectOf attributes ms o → IsReportOf attributes ms r) → IsReportText attributes text r
report_text attributes text o rest r json takes none made = record {
  members = takes.members;
  value_is = json.is ∙ ap (λ (j : Json). Some j) (same_value text json.value (object (members_with takes.members)) json.is
      (takes.tokens_are ∙ ap (λ (ts : List Token). json_tokens (object (members_with takes.members)) ++ ts) none));
  is = made takes.members takes.is;
}

-- some first texts were read
pub record TextsSoFar (attributes : List (List ℕ)) (text rest : List ℕ) (reports : List Report) : Type 0 where
  pub texts : List (List ℕ)
  pub front : text ≡ flat_map (λ t. t) texts ++ rest
  pub each : AreReportTexts attributes texts reports

texts_pushed : (attributes : List (List ℕ)) (ts : List (List ℕ)) (rs : List Report) (t : List ℕ) (r : Report)
    → AreReportTexts attributes ts rs → IsReportText attributes t r → AreReportTexts attributes (ts ++ t ∷ []) (rs ++ r ∷ [])
texts_pushed attributes [] [] t r are is = (is, tt)
texts_pushed attributes [] (q ∷ qs) t r are is = absurd are
texts_pushed attributes (u ∷ us) [] t r are is = absurd are
texts_pushed attributes (u ∷ us) (q ∷ qs) t r are is = (are.0, texts_pushed attributes us qs t r are.1 is)

pub one_text_more : (attributes : List (List ℕ)) (text rest piece more : List ℕ) (reports : List Report) (r : Report)
    → TextsSoFar attributes text rest reports → rest ≡ piece ++ more → IsReportText attributes piece r
    → TextsSoFar attributes text more (reports ++ r ∷ [])
one_text_more attributes text rest piece more reports r far cut is = record {
  texts = far.texts ++ piece ∷ [];
  front = far.front ∙ ap (λ (s : List ℕ). flat_map (λ t. t) far.texts ++ s) cut
      ∙ sym (append_assoc (flat_map (λ t. t) far.texts) piece more)
      ∙ ap (λ (s : List ℕ). (flat_map (λ t. t) far.texts ++ s) ++ more) (sym (append-nil piece))
      ∙ ap (λ (s : List ℕ). s ++ more) (sym (flat_map-append (λ t. t) far.texts (piece ∷ [])));
  each = texts_pushed attributes far.texts reports piece r far.each is;
}

pub if_ok : {A E : Type 0} (P Q : A → Type 0) (r : Result A E) → ((a : A) → P a → Q a) → IfOk r P → IfOk r Q
if_ok P Q r f p = grind (arith, common_steps)

pub none_left : {A : Type 0} (P : Type 0) (Q : A → Type 0) (r : Option A) → is_some r ≡ false → MatchOption r P Q → P
none_left P Q r e is = grind (arith, common_steps)

pub never_none : {A : Type 0} (xs : List A) (x : A) → xs ++ x ∷ [] ≡ [] → ⊥
never_none xs x e = grind (arith, common_steps)
