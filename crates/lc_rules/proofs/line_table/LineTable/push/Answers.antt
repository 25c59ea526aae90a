use Rattle.std.proofs.{Common.{◌≡◌, ◌∙◌, ◌∷◌, ◌++◌, [], ℕ, List, ap, subst, sym}, lemmas.List.map-append}
use Rattle.lc_glob.specs.{Patterns.PatternModel, Reading.pattern_of}
use Rattle.lc_rules.specs.{AttrLines.PatternLineModel, LineNames.HasNames, Models.pattern_line_model, WrittenLines.LineTableModel}
use Rattle.lc_rules.specs.WrittenLines.{lines_in, patterns_in, written_line}
use Rattle.lc_rules.proofs.NamedLines.{names_more}
use Rattle.lc_rules.proofs.line_table.LineTable.push.Goals as goal

pub invariant_of-self-2 : goal.invariant_of-self-2
invariant_of-self-2 c =
    let text = c.self.inside.text.items in
    let lines = lines_in text c.self.inside.starts.items in
    let line : PatternLineModel = pattern_line_model c.args.line.now in
    let whole : lines_in text c.push_reserved.new.self.items ≡ lines ++ line ∷ [] =
    ap (lines_in text) (c.push_reserved.ensures.items ∙ ap (λ (l : List ℕ). l ++ c.args.start ∷ []) c.in_ok-reserve.ensures.items)
    ∙ map-append (written_line text) c.self.inside.starts.items (c.args.start ∷ [])
    ∙ ap (λ (l : PatternLineModel). lines ++ l ∷ [])
    (ap (λ (t : LineTableModel). written_line t.text c.args.start) c.self.view_is ∙ sym c.requires) in
    let pattern : c.in_ok-pattern.pattern ≡ line.pattern = c.in_ok-pattern.ensures ∙ ap pattern_of c.as_slice.ensures in
    subst (λ (l : List PatternLineModel). HasNames l c.add_names.new.names × (c.push.new.self ≡ patterns_in l)) (sym whole) (
      names_more lines line c.self.inside.names c.add_names.new.names c.self.invariant.0 c.in_ok-add_names.ensures.keeps
          c.in_ok-add_names.ensures.adds,
      c.in_ok-push.ensures.ok ∙ ap (λ (l : List PatternModel). l ++ c.in_ok-pattern.pattern ∷ []) c.self.invariant.1
          ∙ ap (λ (p : PatternModel). patterns_in lines ++ p ∷ []) pattern
          ∙ sym (map-append (λ (l : PatternLineModel). l.pattern) lines (line ∷ [])),
    )
