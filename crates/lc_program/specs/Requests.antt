-- How a request is answered, by what was read and written.
use Rattle.std.specs.{Prelude.{◌≡◌, ◌⊎◌, ℕ, Bool, true, false, List, [], ◌∷◌, map, IfSome, Option, Some, Result, Ok, Err}, Borrow.Bor}
use Rattle.lc_io.specs.{declared.{source.Failed.Failed, printing.PrintFault.PrintFault}, Reads.Answer}
use Rattle.lc_languages.specs.declared.list.TheConstants.{LANGUAGES}
use Rattle.lc_level.specs.Filters.{FiltersModel}
use Rattle.lc_rules.specs.IgnoreRules.{rules_of}
use Rattle.lc_tree.specs.{Trees.{Listings, Contents}, declared.file_systems.FileSystems.TheVariants.All}
use Rattle.lc_paths.specs.Explanations.Answers.{AnswersExplain, AnswersLines, MaySay}
use Rattle.lc_paths.specs.declared.{explaining.explain_options.ExplainOptions.ExplainOptions, check_fault.CheckFault.CheckFault}
use Rattle.lc_paths.specs.declared.outcome.Outcome.{Outcome, TheVariants.{Clean, SomeFaults}}
use Rattle.lc_paths.specs.declared.style.{PathFormat.PathFormat, PathStyle.PathStyle}
use Rattle.lc_paths.specs.Checks.{Answers.{AnswersCheck, AnswersExplainedCheck, no_rules}, CheckText.text_by}
use Rattle.lc_paths.specs.{Checks.{Joined.{rules_part, joined_text}, ExplainedText.explained_text_of}, Styles.styled}
use Rattle.lc_arguments.specs.declared.request.Request.{Request, TheVariants.{CheckJoined, Check, Count, Diff, Explain, Languages, Sum}}
use Rattle.lc_arguments.specs.declared.explain.ExplainRequest.{ExplainRequest}
use Rattle.lc_program.specs.{Causes.{check_cause, print_cause}, Counts.AnswersCount, Differences.AnswersDiff}
use Rattle.lc_program.specs.Replies.{AnswerModel, Reply, WritesAnswer, checked, clean, joined}
use Rattle.lc_program.specs.{Filters.{AnswersFilters, GaveNoRules, LacksRules, LoadsFile}, Styles.{end_for, format_for, format_with}}
use Rattle.lc_program.specs.{Finds.HasLine, Reasons.{is_no_directory, unexplained_line, why_line}, Styles.style_for, Sums.AnswersSum}
use Rattle.lc_program.specs.{Systems.SystemMay, Unmatched.unmatched_of, declared.cause.Cause.{Cause, TheVariants.Memory}}
use Rattle.lc_program.specs.declared.streams.Terminals.{Terminals}
use Rattle.lc_program.specs.declared.unread_reason.UnreadReason.{UnreadReason}

-- how an explanation ends that is the answer of a check or of a print
abbrev pub ends_of_check : Result Outcome CheckFault → Result Outcome Cause
ends_of_check (Ok outcome) = Ok outcome
ends_of_check (Err fault) = Err (check_cause fault)

abbrev pub ends_of_print : Result Outcome PrintFault → Result Outcome Cause
ends_of_print (Ok outcome) = Ok outcome
ends_of_print (Err fault) = Err (print_cause fault)

-- how paths in a tree are explained, if the tree gives certain answers
module _ (lists : List ℕ → Listings) (gives : List ℕ → Contents) {I O : Type 0} (may_give : I → ℕ → Answer → I → Type 0)
    (may_take : O → List ℕ → Result ℕ Failed → O → Type 0) where
  abbrev pub AnswersPaths : ExplainOptions → Bool → List (Bor (List ℕ)) → I → O → Result Outcome Cause → I → O → Type 0
  -- those of the input
  AnswersPaths q null [] input out outcome read wrote =
      (answer : Result Outcome CheckFault) × (outcome ≡ ends_of_check answer)
      × AnswersExplain may_take q.style (MaySay lists gives q) (end_for null) may_give input out answer read wrote
  -- those of the words
  AnswersPaths q null (path ∷ paths) input out outcome read wrote =
      (answer : Result Outcome PrintFault) × (outcome ≡ ends_of_print answer) × (read ≡ input)
      × AnswersLines may_take q.style (MaySay lists gives q) (map (λ p. p.now) (path ∷ paths)) out answer wrote

-- how a check is answered whose rules and paths come joined on the input
abbrev pub AnswersJoined : {I O : Type 0} → (I → ℕ → Answer → I → Type 0) → (O → List ℕ → Result ℕ Failed → O → Type 0)
    → PathFormat → I → O → Reply → I → O → Type 0
AnswersJoined may_give may_take format input out reply read wrote =
    (answer : Result (Unit {0}) CheckFault) × (reply ≡ checked answer)
    × AnswersCheck may_give may_take rules_part (joined_text (styled format.style) format.end) input out answer read wrote

module _ {I O : Type 0} (may_give : I → ℕ → Answer → I → Type 0) (may_take : O → List ℕ → Result ℕ Failed → O → Type 0) where
  -- how a check of paths is answered by these bytes of the rule file with this name, explained or not
  abbrev pub AnswersPathCheck : PathFormat → List ℕ → Bool → List ℕ → I → O → Result (Unit {0}) CheckFault → I → O → Type 0
  AnswersPathCheck format name true bytes input out answer read wrote =
      AnswersExplainedCheck may_give may_take (explained_text_of (styled format.style) name bytes format.end) input out answer read wrote
  AnswersPathCheck format name false bytes input out answer read wrote =
      AnswersCheck may_give may_take no_rules (text_by (styled format.style) (rules_of bytes) format.end) input out answer read wrote

  -- how a check is answered by the file with this name: by its bytes; or the file gave no rules, and nothing was read or written
  abbrev pub AnswersFile : (List ℕ → Contents) → PathFormat → List ℕ → Bool → I → O → Reply → I → O → Type 0
  AnswersFile holds format name is_explained input out reply read wrote =
      ((bytes : List ℕ) × LoadsFile (holds name) (Ok bytes) × (answer : Result (Unit {0}) CheckFault) × (reply ≡ checked answer)
      × AnswersPathCheck format name is_explained bytes input out answer read wrote)
      ⊎ ((cause : Cause) × GaveNoRules (holds name) cause × (reply ≡ Err cause) × (read ≡ input) × (wrote ≡ out))

-- what is known of an explanation with this outcome: standard error gets why the directory could not be read, if the explanation has errors
-- and the system gives this reason, and which patterns can match nothing
abbrev pub explained : ExplainRequest → Option UnreadReason → Outcome → AnswerModel
explained c why Clean = record { has_faults = false; fails = false; told = unmatched_of c.filters }
explained c why SomeFaults = record {
  has_faults = true;
  fails = false;
  told = joined (why_line c.directory.now why ∷ unmatched_of c.filters ∷ []);
}

abbrev pub explained_reply : ExplainRequest → Option UnreadReason → Result Outcome Cause → Reply
explained_reply c why (Ok outcome) = Ok (explained c why outcome)
explained_reply c why (Err cause) = Err cause

module _ (may_unlist : List ℕ → Option UnreadReason → Type 0) where
  -- the directory of an explanation is refused for this cause: it is none by the system's answer, or an allocation failed
  abbrev pub RefusesDirectory : List ℕ → Cause → Type 0
  RefusesDirectory directory cause =
      ((why : UnreadReason) × may_unlist directory (Some why) × (is_no_directory why ≡ true)
      × HasLine (unexplained_line directory (Some why)) cause)
      ⊎ (cause ≡ Memory)

  -- why the directory of an explanation can't be listed, if the system gives a reason; or the directory is refused
  abbrev pub AnswersDirectory : List ℕ → Result (Option UnreadReason) Cause → Type 0
  AnswersDirectory directory (Ok why) = may_unlist directory why × IfSome why (λ reason. is_no_directory reason ≡ false)
  AnswersDirectory directory (Err cause) = RefusesDirectory directory cause

module _ (may : SystemMay) {I O : Type 0} (may_give : I → ℕ → Answer → I → Type 0)
    (may_take : O → List ℕ → Result ℕ Failed → O → Type 0) where
  -- how an explanation of the paths in a directory is answered: by the system's answer the directory may be one, and the paths are
  -- explained by what the command line requests; or the directory was refused, or there were no rules, and nothing was read or written
  abbrev pub AnswersExplanation : PathStyle → ExplainRequest → I → O → Reply → I → O → Type 0
  AnswersExplanation style c input out reply read wrote =
      ((why : Option UnreadReason) × AnswersDirectory may.unlist c.directory.now (Ok why)
      × ((f : FiltersModel) × AnswersFilters may.hold may.unread c.filters [] (Ok f)
      × ((q : ExplainOptions) × (outcome : Result Outcome Cause) × (q.filters.now ≡ f) × (q.style ≡ style)
      × (reply ≡ explained_reply c why outcome)
      × AnswersPaths (may.list c.directory.now All) (may.give c.directory.now All) may_give may_take q c.null c.paths.items input
      out outcome read wrote)))
      ⊎ ((cause : Cause) × (RefusesDirectory may.unlist c.directory.now cause ⊎ LacksRules may.hold may.unread c.filters cause)
      × (reply ≡ Err cause) × (read ≡ input) × (wrote ≡ out))

  -- how a request is answered. If the output is a terminal, paths are printed for it, except in a table, and a table has another format if
  -- none is named. The list of languages is written as it is
  abbrev pub AnswersRequest : Terminals → Request → I → O → Reply → I → O → Type 0
  AnswersRequest terminals CheckJoined input out reply read wrote =
      AnswersJoined may_give may_take (format_with false (style_for terminals.output)) input out reply read wrote
  AnswersRequest terminals (Check c) input out reply read wrote =
      AnswersFile may_give may_take may.hold (format_with c.null (style_for terminals.output)) c.file.now c.explain input out reply read
      wrote
  AnswersRequest terminals (Count c) input out reply read wrote =
      AnswersCount may may_give may_take terminals c input out reply read wrote
  AnswersRequest terminals (Explain c) input out reply read wrote =
      AnswersExplanation (style_for terminals.output) c input out reply read wrote
  AnswersRequest terminals Languages input out reply read wrote =
      WritesAnswer may_take LANGUAGES.now clean out reply wrote × (read ≡ input)
  AnswersRequest terminals (Sum c) input out reply read wrote =
      AnswersSum may may_give may_take (format_for terminals.output) c input out reply read wrote
  AnswersRequest terminals (Diff d) input out reply read wrote =
      AnswersDiff may may_give may_take (format_for terminals.output) d input out reply read wrote
