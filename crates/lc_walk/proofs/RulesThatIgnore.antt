-- The rule of an entry that a rule leaves out.
use Rattle.std.proofs.Common.{arith, rules, ◌≡◌, ℕ, Bool, false, cond, List, [], refl, sym, ◌∙◌, ap, subst, Option, Some, option_map, inl}
use Rattle.std.proofs.{Common.inr, lemmas.{Grind.common_steps, List.Sorted.{Contains-permutation, IsPermutation-sym}}}
use Rattle.lc_glob.specs.Path.{path_in}
use Rattle.lc_tree.specs.{Kinds.is_dir, declared.entry.Kind.Kind}
use Rattle.lc_level.specs.{Answers.{Item, name_of, entry_of}, Job.JobModel, Level.{by_rule, by_attribute, SkippedLineModel, skipped}}
use Rattle.lc_level.specs.{Level.{skipped_below, fate_of}, Filters.FiltersModel}
use Rattle.lc_rules.specs.{IgnoreChains.rules_in, IgnoreLaws.{IsLastMatch, LastMatchLaw}, IgnoreRules.RuleModel, Verdicts.last_match}
use Rattle.lc_rules.specs.declared.rule_source.RuleSource.{RuleSource}
use Rattle.lc_walk.specs.{Accounts.{IsIgnoredBy, RuleLaw}, FoundAt.{LeadsTo, Gives}, Found.{Found, found_skipped}, RecursiveWalk.walk_of}
use Rattle.lc_walk.specs.FoundReports.{skipped_lines_in, skipped_lines_of}
use Rattle.lc_walk.proofs.{Elements.{In, is_in, contains, in_lists, if_cond}, FoundByPlace.place_by_walk, TakingPart.in_filter}

-- ---- the rule that decides

-- a rule that decides among rules, which ignores, and stands on this line of a file of this source
record Decides (rules : List (RuleSource × RuleModel)) (path : List ℕ) (is_dir : Bool) (source : RuleSource) (line : ℕ) : Type 0 where
  rule : RuleModel
  on_line : rule.line ≡ line
  ignores : rule.is_negated ≡ false
  decides : last_match rules path is_dir ≡ Some (source, rule)

-- an attribute is no rule
no_attribute : (found : Option (List ℕ)) (source : RuleSource) (line : ℕ) → option_map by_attribute found ≡ Some (by_rule source line) → ⊥
no_attribute found source line e = grind (arith, common_steps)

-- ---- the fate of an entry

-- an entry that is left out by a rule
decided_item : (s : FiltersModel) (k : JobModel) (item : Item) (kind : Kind) (source : RuleSource) (line : ℕ) →
    fate_of s k item ≡ skipped kind (by_rule source line) →
    Decides (rules_in k.ignore) (path_in k.path (name_of item)) (is_dir (entry_of item).kind) source line
decided_item s k item kind source line e = grind (arith, common_steps, no_attribute)

-- the rule that decides is the last that matches
is_last_match : LastMatchLaw → (rules : List (RuleSource × RuleModel)) (path : List ℕ) (is_dir : Bool) (rule : RuleSource × RuleModel)
    → last_match rules path is_dir ≡ Some rule → IsLastMatch rules path is_dir rule
is_last_match law rules path is_dir rule e = grind (arith, common_steps)

-- ---- the lines of a report

-- the thing of which a line was made
skipped_found : (x : Found) (entry : SkippedLineModel) → In entry (skipped_lines_in x)
    → (directory : List ℕ) × (l : SkippedLineModel) × (x ≡ found_skipped directory l) × (skipped_below directory l ≡ entry)
skipped_found (found_skipped directory l) entry (inl e) = (directory, l, refl, e)
skipped_found (found_skipped directory l) entry (inr i) = absurd i
skipped_found thing entry i = absurd i

-- each entry that is left out by a rule has that rule
pub rule_law : LastMatchLaw → RuleLaw
rule_law law lists filters depth top t r is entry source line has by =
    let there : In entry (cond lists.left_out (skipped_lines_of (walk_of filters depth top t)) []) =
    is_in _ _ (Contains-permutation _ _ entry (IsPermutation-sym _ _ is.skipped_are) has) in
    let x = in_lists skipped_lines_in entry (walk_of filters depth top t) (if_cond lists.left_out entry _ there).1 in
    let f = skipped_found x.0 entry x.2 in
    let p = place_by_walk filters depth top t x.0 x.1 in
    at p.place p.job p.leads f.0 f.1 f.3 (subst (Gives filters p.job (t p.place)) f.2 p.gives)
  where
    at : (place : List (List ℕ)) (job : JobModel) → LeadsTo filters top t place job → (directory : List ℕ) (l : SkippedLineModel) →
        skipped_below directory l ≡ entry → Gives filters job (t place) (found_skipped directory l) →
        IsIgnoredBy filters top t entry.path source line
    at place job leads directory l same (d, h) =
        let reason : l.reason ≡ by_rule source line = ap (λ (e : SkippedLineModel). e.reason) same ∙ by in
        let decided = decided_item filters h.inside h.item l.kind source line (h.fate_is ∙ ap (skipped l.kind) reason) in
        let path : entry.path ≡ path_in h.inside.path (name_of h.item) =
        sym (ap (λ (e : SkippedLineModel). e.path) same) ∙ ap (λ p. path_in p l.path) (d ∙ sym (ap (λ (j : JobModel). j.path) h.listed.is))
        ∙ ap (path_in h.inside.path) (sym h.named) in
        record {
          place = place;
          job = job;
          leads = leads;
          items = h.items;
          inside = h.inside;
          listed = h.listed;
          item = h.item;
          has = contains h.item h.items (in_filter _ h.item h.items (is_in h.item _ h.has)).0;
          path_is = path;
          rule = decided.rule;
          on_line = decided.on_line;
          ignores = decided.ignores;
          decides = subst (λ p. IsLastMatch (rules_in h.inside.ignore) p (is_dir (entry_of h.item).kind) (source, decided.rule)) (sym path)
              (is_last_match law (rules_in h.inside.ignore) (path_in h.inside.path (name_of h.item)) (is_dir (entry_of h.item).kind)
              (source, decided.rule) decided.decides);
        }
