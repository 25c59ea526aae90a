-- The filters of a command line: what decides, besides the tree's own rules, which entries are skipped.
use Rattle.std.specs.Prelude.{◌≡◌, ◌⊎◌, ◌<◌, ℕ, Bool, true, cond, List, [], ◌∷◌, codes, map, length, Option, Some, None, Result, Ok, Err}
use Rattle.std.specs.{Prelude.Vec, Borrow.Bor, Global.Global}
use Rattle.lc_arguments.specs.{Repeated.lines_text, declared.filter_request.FilterRequest.FilterRequest}
use Rattle.lc_level.specs.{FileReads.MayReadRules, Filters.FiltersModel, declared.rule_files.rule_text.RulesFileFault.RulesFileFault}
use Rattle.lc_io.specs.declared.whole.WholeFault.{WholeFault}
use Rattle.lc_rules.specs.{AttrLines.{AttrFileModel, attribute_file_of}, Limits.max_rule_bytes}
use Rattle.lc_tree.specs.Trees.{Contents}
use Rattle.lc_program.specs.{Causes.rules_cause, NamedTexts.LoadsText, declared.unread_reason.UnreadReason.UnreadReason}
use Rattle.lc_program.specs.declared.cause.Cause.{Cause, TheVariants.{AttributesTooLong, Memory, UnreadAttributes}}
use Rattle.lc_level.specs.declared.fault_word.FaultWord.TheVariants as word
use Rattle.lc_level.specs.declared.rule_files.rule_text.RulesFileFault.TheVariants as fault
use Rattle.lc_io.specs.declared.whole.WholeFault.TheVariants as whole

-- what reading a rule file may answer, by what its reads may give. Either its bytes, which reads gave up to the end; or a read failed, as
-- the first read of a file that can't be opened; or there are too many bytes; or an allocation failed
abbrev pub LoadsFile : Contents → Result (List ℕ) RulesFileFault → Type 0
LoadsFile gives (Ok bytes) = MayReadRules gives (Ok bytes)
LoadsFile gives (Err fault.Read) = MayReadRules gives (Err word.Read)
LoadsFile gives (Err fault.TooLong) = MayReadRules gives (Err word.Long)
LoadsFile gives (Err fault.Memory) = Unit {0}

-- a rule file with these contents gave no rules, for this cause
abbrev pub GaveNoRules : Contents → Cause → Type 0
GaveNoRules gives cause = (fault : RulesFileFault) × LoadsFile gives (Err fault) × (cause ≡ rules_cause fault)

-- the text of a rule file with these patterns as its lines; without patterns there is none
abbrev pub patterns_text : List (List ℕ) → Option (List ℕ)
patterns_text [] = None
patterns_text (pattern ∷ patterns) = Some (lines_text (pattern ∷ patterns))

-- the text of a rule file with these patterns as its lines; or the text is too long, or an allocation failed
abbrev pub AnswersPatterns : List (List ℕ) → Result (Option (List ℕ)) RulesFileFault → Type 0
AnswersPatterns patterns (Ok text) = text ≡ patterns_text patterns
AnswersPatterns patterns (Err fault.Read) = ⊥
AnswersPatterns patterns (Err fault.TooLong) = max_rule_bytes < length (lines_text patterns)
AnswersPatterns patterns (Err fault.Memory) = Unit {0}

-- these patterns gave no rules, for this cause
abbrev pub LacksPatterns : List (Bor (List ℕ)) → Cause → Type 0
LacksPatterns patterns cause =
    (fault : RulesFileFault) × AnswersPatterns (map (λ pattern. pattern.now) patterns) (Err fault) × (cause ≡ rules_cause fault)

-- the attributes for which entries are skipped: those of the command line, and with `--archive` first `export-ignore`, which `git archive`
-- skips: gitattributes(5), Creating an archive
abbrev pub words_of : Bool → List (List ℕ) → List (List ℕ)
words_of archive without = cond archive (codes "export-ignore" ∷ without) without

-- the filters that the command line requests, with the attributes whose states files are to have, with the text of the ignore file and with
-- the attribute file that it names, without paths
abbrev pub filters_of : FilterRequest → List (List ℕ) → Option (List ℕ) → Option AttrFileModel → FiltersModel
filters_of asked names text attributes = record {
  exclude_from = text;
  attributes_from = attributes;
  exclude = patterns_text (map (λ pattern. pattern.now) asked.exclude.items);
  include = patterns_text (map (λ pattern. pattern.now) asked.include.items);
  no_ignore = asked.no_ignore;
  without = words_of asked.archive (map (λ word. word.now) asked.without.items);
  only = None;
  asked = names;
}

module _ (holds : List ℕ → Contents) where
  -- the text is that of the file of `--exclude-from`, if the command line names one
  abbrev pub Excludes : Option (Bor (List ℕ)) → Option (List ℕ) → Type 0
  Excludes None text = text ≡ None
  Excludes (Some name) None = ⊥
  Excludes (Some name) (Some bytes) = LoadsFile (holds name.now) (Ok bytes)

  -- the command line names a file with `--exclude-from`, which gave no rules, for this cause
  abbrev pub LacksFile : Option (Bor (List ℕ)) → Cause → Type 0
  LacksFile None cause = ⊥
  LacksFile (Some name) cause = GaveNoRules (holds name.now) cause

  -- the text of the file of `--exclude-from`, or why there is none
  abbrev pub AnswersExcluded : Option (Bor (List ℕ)) → Result (Option (List ℕ)) Cause → Type 0
  AnswersExcluded name (Ok text) = Excludes name text
  AnswersExcluded name (Err cause) = LacksFile name cause

  -- the file is what the bytes of the file of `--attributes-from` are read as, if the command line names one
  abbrev pub Assigns : Option (Bor (List ℕ)) → Option AttrFileModel → Type 0
  Assigns None file = file ≡ None
  Assigns (Some name) None = ⊥
  Assigns (Some name) (Some file) =
      (bytes : Vec ℕ Global) × LoadsText max_rule_bytes (holds name.now) (Ok bytes) × (file ≡ attribute_file_of true bytes.items)

module _ (holds : List ℕ → Contents) (may_unread : List ℕ → Option UnreadReason → Type 0) where
  -- why the file of `--attributes-from` could not be read; the reason is what the system may say
  abbrev pub IsAttributesCause : List ℕ → WholeFault → Cause → Type 0
  IsAttributesCause name whole.Read cause = (reason : Option UnreadReason) × may_unread name reason × (cause ≡ UnreadAttributes reason)
  IsAttributesCause name whole.TooLong cause = cause ≡ AttributesTooLong
  IsAttributesCause name whole.Memory cause = cause ≡ Memory

  -- the command line names a file with `--attributes-from` that could not be read, for this cause
  abbrev pub LacksAttributes : Option (Bor (List ℕ)) → Cause → Type 0
  LacksAttributes None cause = ⊥
  LacksAttributes (Some name) cause =
      (fault : WholeFault) × LoadsText max_rule_bytes (holds name.now) (Err fault) × IsAttributesCause name.now fault cause

  -- the command line names a file or patterns that gave no rules, for this cause
  abbrev pub LacksRules : FilterRequest → Cause → Type 0
  LacksRules asked cause =
      LacksFile holds asked.exclude_from cause
      ⊎ (LacksAttributes asked.attributes_from cause
      ⊎ (LacksPatterns asked.exclude.items cause ⊎ LacksPatterns asked.include.items cause))

  -- the filters that the command line requests, with these attributes for files and without paths, or why there are none
  abbrev pub AnswersFilters : FilterRequest → List (List ℕ) → Result FiltersModel Cause → Type 0
  AnswersFilters asked names (Ok f) =
      (text : Option (List ℕ)) × Excludes holds asked.exclude_from text
      × ((file : Option AttrFileModel) × Assigns holds asked.attributes_from file × (f ≡ filters_of asked names text file))
  AnswersFilters asked names (Err cause) = LacksRules asked cause
