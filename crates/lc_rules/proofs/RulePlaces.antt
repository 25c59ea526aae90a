-- The place of a rule is the number of the older ones.
use Rattle.std.proofs.{Common.{◌≡◌, ◌<◌, List, [], ◌∷◌, ◌++◌, length, get_or, ◌∙◌, ap, arith, append_assoc}, lemmas.List.length-append}
use Rattle.std.proofs.{lemmas.List.{length-map, get_or-map}, Math.Seq.get_or-append_seam}
use Rattle.lc_glob.specs.{Patterns.{PatternModel, dead}, PatternSets.pattern_at}
use Rattle.lc_rules.specs.IgnoreRules.{RuleModel, patterns_of}

module _ (all rest newer older : List RuleModel) (rule : RuleModel) (whole : all ≡ rest ++ newer) (last : rest ≡ older ++ rule ∷ [])
    (patterns : List PatternModel) (theirs : patterns ≡ patterns_of all) where
  below_all : length older < length all
  below_all =
      omega (arith, ap length whole, length-append rest newer, ap length last, length-append older (rule ∷ []))

  -- it is one of the places
  pub place_below : length older < length patterns
  place_below = omega (arith, below_all, ap length theirs, length-map all (λ (r : RuleModel). r.pattern))

  cut_before : all ≡ older ++ rule ∷ newer
  cut_before = whole ∙ ap (λ (l : List RuleModel). l ++ newer) last ∙ append_assoc older (rule ∷ []) newer

  -- and the rule's pattern stands there
  pub pattern_placed : pattern_at patterns (length older) ≡ rule.pattern
  pattern_placed =
      ap (λ ps. pattern_at ps (length older)) theirs
      ∙ get_or-map (λ (r : RuleModel). r.pattern) all (length older) rule dead below_all
      ∙ ap (λ (l : List RuleModel). (get_or l (length older) rule).pattern) cut_before
      ∙ ap (λ (r : RuleModel). r.pattern) (get_or-append_seam older rule newer rule)
