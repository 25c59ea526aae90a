-- The text of an explained check, line by line.
use Rattle.std.proofs.Common.{◌≡◌, ℕ, Bool, true, false, cond, List, [], ◌∷◌, ◌++◌, Option, Some, None, IfSome, MatchOption, Bor, length}
use Rattle.std.proofs.Common.{map, append-nil, get_or, ◌<◌, sym, ap, ap₂, ◌∙◌, subst, arith, append_assoc, length-append}
use Rattle.std.proofs.{Math.Seq.get_or-append_seam, lemmas.List.{get_or-map, length-map, Elements.All-map}}
use Rattle.std.specs.{Prelude.option_map, List.{All, list_any, flat_map}}
use Rattle.lc_rules.specs.{IgnoreRules.{RuleModel, rules_of, text_of_line}, IgnoreLaws.{IsLastMatch, IsOnLine}}
use Rattle.lc_rules.specs.{RuleLines.lines_of as rule_lines_of, Verdicts.{rule_matches, last_match, at_depth}}
use Rattle.lc_rules.specs.declared.rule_source.RuleSource.{RuleSource, TheVariants.Gitignore}
use Rattle.lc_rules.proofs.{LastMatch.decides_by_last, RuleLineNumbers.on_their_lines}
use Rattle.lc_paths.specs.Checks.CheckText.{file_verdict, has_ignored_parent, path_word}
use Rattle.lc_paths.specs.Checks.ExplainedText.{file_rule, highest_ignored, path_rule, rule_line, explained_line}
use Rattle.lc_text.specs.PathLines.{is_bad_path, is_dir_line, path_of}

-- what holds of all rules holds of the one that decides
module _ (P : RuleModel → Type 0) (rules : List RuleModel) (all : All P rules) where
  of_last_match : (path : List ℕ) (is_dir : Bool) (found : Option (RuleSource × RuleModel))
      → MatchOption found (list_any (rule_matches path is_dir) (at_depth 0 rules) ≡ false) (IsLastMatch (at_depth 0 rules) path is_dir)
      → IfSome (option_map (λ r. r.1) found) P
  of_last_match path is_dir None none = tt
  of_last_match path is_dir (Some r) last =
      subst (λ (x : RuleSource × RuleModel). P x.1)
      (ap (λ l. get_or l (length last.older) r) last.stands ∙ get_or-append_seam last.older r last.later r)
      (All-map (λ (x : RuleSource × RuleModel). P x.1) (λ (x : RuleModel). (Gitignore 0, x)) rules all (length last.older) r
      (omega (arith, ap length last.stands, length-append last.older (r ∷ last.later))))

  of_file_rule : (path : List ℕ) (is_dir : Bool) → IfSome (file_rule rules path is_dir) P
  of_file_rule path is_dir =
      of_last_match path is_dir (last_match (at_depth 0 rules) path is_dir) (decides_by_last (at_depth 0 rules) path is_dir).0

  by_tests : (bad below : Bool) (above own : Option RuleModel) → IfSome above P → IfSome own P
      → IfSome (cond bad None (cond below above own)) P
  by_tests true below above own x y = tt
  by_tests false true above own x y = x
  by_tests false false above own x y = y

  -- and of the one that gives a path its word
  of_path_rule : (path : List ℕ) (is_dir : Bool) → IfSome (path_rule rules path is_dir) P
  of_path_rule path is_dir =
      by_tests (is_bad_path path) (has_ignored_parent (file_verdict rules) path)
      (file_rule rules (highest_ignored (file_verdict rules) path) true) (file_rule rules path is_dir)
      (of_file_rule (highest_ignored (file_verdict rules) path) true) (of_file_rule path is_dir)

  lent : (found : Option (Bor RuleModel)) → IfSome (option_map (λ r. r.now) found) P → IfSome found (λ r. P r.now)
  lent None h = tt
  lent (Some r) h = h

-- a rule that was found stands on its line
pub found_on_line : (bytes : List ℕ) (rules : List RuleModel) (path : List ℕ) (is_dir : Bool) (found : Option (Bor RuleModel))
    → rules ≡ rules_of bytes → option_map (λ r. r.now) found ≡ path_rule rules path is_dir
    → IfSome found (λ r. IsOnLine (rule_lines_of bytes) r.now)
found_on_line bytes rules path is_dir found are is =
    let P = IsOnLine (rule_lines_of bytes) in
    lent P (rules_of bytes) (on_their_lines bytes) found
    (subst (λ (o : Option RuleModel). IfSome o P) (sym (is ∙ ap (λ l. path_rule l path is_dir) are))
    (of_path_rule P (rules_of bytes) (on_their_lines bytes) path is_dir))

-- the line of a path, by what was found of it
pub line_found : (escape : List ℕ → List ℕ) (name bytes line : List ℕ) (rules : List RuleModel) (word : List ℕ)
    (found : Option RuleModel) → rules ≡ rules_of bytes
    → word ≡ path_word (file_verdict rules) (path_of line) (is_dir_line line)
    → found ≡ path_rule rules (path_of line) (is_dir_line line)
    → rule_line escape name bytes word found line ≡ explained_line escape name bytes line
line_found escape name bytes line rules word found are by_word by_rule =
    ap₂ (λ w r. rule_line escape name bytes w r line)
    (by_word ∙ ap (λ l. path_word (file_verdict l) (path_of line) (is_dir_line line)) are)
    (by_rule ∙ ap (λ l. path_rule l (path_of line) (is_dir_line line)) are)

-- the text at a place, of lines that are read one by one
pub text_at : (texts : List (Bor (List ℕ))) (lines : List (List ℕ)) (i : ℕ) (found : Bor (List ℕ))
    → map (λ t. t.now) texts ≡ map text_of_line lines → i < length lines → found ≡ get_or texts i found
    → found.now ≡ text_of_line (get_or lines i [])
text_at texts lines i found read low is =
    let now = λ (t : Bor (List ℕ)). t.now in
    let within : i < length texts = omega (arith, ap length read, length-map texts now, length-map lines text_of_line) in
    ap now is ∙ sym (get_or-map now texts i found [] within)
    ∙ ap (λ l. get_or l i []) read ∙ get_or-map text_of_line lines i [] [] low

-- one line more
pub line_more : (f : List ℕ → List ℕ) (made whole line : List ℕ) (rest others : List (List ℕ)) → made ++ flat_map f rest ≡ whole
    → rest ≡ line ∷ others → (made ++ f line) ++ flat_map f others ≡ whole
line_more f made whole line rest others told split =
    append_assoc made (f line) (flat_map f others) ∙ ap (λ l. made ++ flat_map f l) (sym split) ∙ told

-- no line is left
pub line_none : (f : List ℕ → List ℕ) (made whole : List ℕ) (rest : List (List ℕ)) → made ++ flat_map f rest ≡ whole → rest ≡ []
    → made ≡ whole
line_none f made whole rest told none = sym (append-nil made) ∙ ap (λ l. made ++ flat_map f l) (sym none) ∙ told
