use Rattle.std.proofs.{Common.{◌≡◌, ℕ, true, List, length, take, drop, ◌++◌, ap, sym, ◌∙◌}, lemmas.List.take-append-drop}
use Rattle.std.proofs.lemmas.Slice.Eq.{bytes_eq-Decides}
use Rattle.std.specs.Str.{bytes_eq}
use Rattle.lc_text.specs.RulePlaces.{source_directory}
use Rattle.lc_reading.proofs.rule_places.is_shown.Goals as goal

joined : (file front rest name : List ℕ) → bytes_eq (take (length front) file) front ≡ true → rest ≡ drop (length front) file
    → bytes_eq rest name ≡ true → file ≡ front ++ name
joined file front rest name at_front is_rest is_name =
    sym (take-append-drop (length front) file)
    ∙ ap (λ (s : List ℕ). s ++ drop (length front) file) ((bytes_eq-Decides (take (length front) file) front).0 at_front)
    ∙ ap (λ (s : List ℕ). front ++ s) (sym is_rest ∙ (bytes_eq-Decides rest name).0 is_name)

pub returns-in-Some : goal.returns-in-Some
returns-in-Some c t =
    joined c.args.file.now c.source_directory-front.result.now c.in-Some.rest.now c.as_bytes.result.now
    c.in-Some.ensures.cases.0 c.in-Some.ensures.cases.1 (sym c.eq.ensures ∙ t)
    ∙ ap (λ (s : List ℕ). s ++ c.as_bytes.result.now) c.source_directory-front.ensures
    ∙ ap (λ (s : List ℕ). source_directory c.args.path.now c.args.source ++ s) (c.as_bytes.ensures.value ∙ c.source_name.ensures)
