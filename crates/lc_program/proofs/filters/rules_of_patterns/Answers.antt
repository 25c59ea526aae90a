use Rattle.std.proofs.Common.{◌≡◌, ◌≢◌, ◌∙◌, ◌==◌, ℕ, false, List, [], ◌∷◌, Bor, length, map, sym}
use Rattle.lc_program.proofs.SlicesRead.{text_read, text_unread}
use Rattle.lc_program.proofs.filters.rules_of_patterns.Goals as goal

-- some patterns are some texts
some_texts : (patterns : List (Bor (List ℕ))) → (length patterns == 0) ≡ false → map (λ pattern. pattern.now) patterns ≢ []
some_texts [] some none = absurd (cc)
some_texts (pattern ∷ patterns) some none = absurd (cc)

pub returns-in-Ok-read_rule_text : goal.returns-in-Ok-read_rule_text
returns-in-Ok-read_rule_text c =
    let patterns = c.args.patterns.now in
    text_read (map (λ pattern. pattern.now) patterns) c.as_slice.result c.read_rule_text.new.file c.in-Ok-read_rule_text.text
    (some_texts patterns (sym c.is_empty.ensures ∙ c.if-is_empty.false)) (c.as_slice.ensures.value ∙ c.in-Ok.ensures)
    c.in-Ok-read_rule_text.ensures

pub returns : goal.returns
returns c =
    text_unread (map (λ pattern. pattern.now) c.args.patterns.now) c.as_slice.result c.read_rule_text.new.file c.in-Err.fault
    (c.as_slice.ensures.value ∙ c.in-Ok.ensures) c.in-Err.ensures
