-- The list of paths that the command line names, in a file or on the input.
use Rattle.std.specs.Prelude.{◌≡◌, ◌≢◌, ◌⊎◌, ◌&&◌, ◌||◌, ℕ, Bool, true, false, not, List, [], ◌∷◌, ◌++◌, map, Option, Some, None, Result}
use Rattle.std.specs.{Prelude.{Ok, Err, Vec, codes, is_some, option_map, string_bytes}, Borrow.Bor, Global.Global, List.list_any}
use Rattle.lc_glob.specs.Lists.{is_empty}
use Rattle.lc_io.specs.{Reads.Answer, declared.whole.WholeFault.{WholeFault, TheVariants.{Read, TooLong, Memory}}}
use Rattle.lc_text.specs.{Lines.input_paths_of, PathLines.{is_bad_path, is_top, path_of, undotted}, declared.lines.PathEnd.PathEnd}
use Rattle.lc_tree.specs.Trees.{Contents}
use Rattle.lc_program.specs.{Causes.{bad_path_line, no_path_line}, NamedTexts.ReadsNamed, declared.cause.Cause.Cause}
use Rattle.lc_program.specs.declared.unread_reason.UnreadReason.{UnreadReason}
use Rattle.lc_program.specs.declared.cause.Cause.TheVariants as cause

-- the greatest number of bytes of a list
abbrev pub max_list : ℕ
max_list = 268435456

module _ {I : Type 0} (may_give : I → ℕ → Answer → I → Type 0) (holds : List ℕ → Contents) where
  -- what reading the list may answer that the command line names. If it names none, there are no bytes
  abbrev pub AnswersList : Option (Bor (List ℕ)) → I → Result (Vec ℕ Global) WholeFault → I → Type 0
  AnswersList None input (Ok bytes) read = (bytes.items ≡ []) × (read ≡ input)
  AnswersList None input (Err fault) read = ⊥
  AnswersList (Some name) input answer read = ReadsNamed max_list may_give holds name.now input answer read

-- why the list could not be read. For the input there is no reason; for a file it is what the system may say
module _ (may_unread : List ℕ → Option UnreadReason → Type 0) where
  abbrev pub IsListCause : Option (Bor (List ℕ)) → WholeFault → Cause → Type 0
  IsListCause name TooLong why = why ≡ cause.PathsTooLong
  IsListCause name Memory why = why ≡ cause.Memory
  IsListCause None Read why = why ≡ cause.UnreadPaths None
  IsListCause (Some name) Read why =
      ((name.now ≡ codes "-") × (why ≡ cause.UnreadPaths None))
      ⊎ ((name.now ≢ codes "-") × ((reason : Option UnreadReason) × may_unread name.now reason × (why ≡ cause.UnreadPaths reason)))

module _ {I : Type 0} (may_give : I → ℕ → Answer → I → Type 0) (holds : List ℕ → Contents)
    (may_unread : List ℕ → Option UnreadReason → Type 0) where
  -- the list that the command line names, or why there is none
  abbrev pub GivesList : Option (Bor (List ℕ)) → I → Result (Vec ℕ Global) Cause → I → Type 0
  GivesList name input (Ok bytes) read = AnswersList may_give holds name input (Ok bytes) read
  GivesList name input (Err why) read =
      (fault : WholeFault) × AnswersList may_give holds name input (Err fault) read × IsListCause may_unread name fault why

-- the path of an item of the list: without each `./` at its beginning and the slashes after it, and without one slash at its end
abbrev pub listed_path : List ℕ → List ℕ
listed_path line = path_of (undotted line)

-- the paths of a list, in its order
abbrev pub paths_listed : PathEnd → List ℕ → List (List ℕ)
paths_listed end list = map listed_path (input_paths_of end list)

-- whether a path is neither the counted directory itself nor one that an entry can have
abbrev pub is_bad_listed : List ℕ → Bool
is_bad_listed path = not (is_top path) && is_bad_path path

-- a path is the first in a list that is neither the counted directory itself nor one that an entry can have
pub record IsFirstBad (end : PathEnd) (list path : List ℕ) : Type 0 where
  pub before : List (List ℕ)
  pub after : List (List ℕ)
  pub are : input_paths_of end list ≡ before ++ path ∷ after
  pub fine : list_any is_bad_listed (map listed_path before) ≡ false
  pub bad : is_bad_listed (listed_path path) ≡ true

-- the paths of the list with this name, or why they are refused: no entry can have one of them, or an allocation fails
abbrev pub AnswersListed : List ℕ → PathEnd → List ℕ → Result (Vec (Bor (List ℕ)) Global) Cause → Type 0
AnswersListed name end list (Ok paths) =
    (map (λ path. path.now) paths.items ≡ paths_listed end list) × (list_any is_bad_listed (paths_listed end list) ≡ false)
AnswersListed name end list (Err (cause.BadPaths line)) =
    (path : List ℕ) × IsFirstBad end list path × (string_bytes line ≡ bad_path_line name path)
AnswersListed name end list (Err cause.Memory) = Unit {0}
AnswersListed name end list (Err _) = ⊥

-- the paths of `--only`, and then those of the list that the command line names, or why they are refused
abbrev pub AnswersNamed : List (List ℕ) → Option (Bor (List ℕ)) → PathEnd → List ℕ → Result (Vec (Bor (List ℕ)) Global) Cause → Type 0
AnswersNamed only None end list (Ok paths) = map (λ path. path.now) paths.items ≡ only
AnswersNamed only (Some name) end list (Ok paths) =
    (map (λ path. path.now) paths.items ≡ only ++ paths_listed end list) × (list_any is_bad_listed (paths_listed end list) ≡ false)
AnswersNamed only None end list (Err why) = why ≡ cause.Memory
AnswersNamed only (Some name) end list (Err why) = AnswersListed name.now end list (Err why)

-- whether the command line names paths or a list
abbrev pub names_paths : List (List ℕ) → Option (Bor (List ℕ)) → Bool
names_paths only name = not (is_empty only) || is_some name

-- the paths to count, if all of the directory is not
abbrev pub paths_wanted : Option (Vec (Bor (List ℕ)) Global) → Option (List (List ℕ))
paths_wanted wanted = option_map (λ paths. map (λ path. path.now) paths.items) wanted

-- the paths to count, of the command line and of its list, or why they are refused. All of the directory is counted if neither is named, or
-- if one of the paths is the directory itself
abbrev pub AnswersWanted : List (List ℕ) → Option (Bor (List ℕ)) → PathEnd → List ℕ → Result (Option (Vec (Bor (List ℕ)) Global)) Cause
    → Type 0
AnswersWanted only name end list (Ok None) =
    (names_paths only name ≡ false)
    ⊎ ((named : Vec (Bor (List ℕ)) Global) × AnswersNamed only name end list (Ok named)
    × (list_any (λ (path : Bor (List ℕ)). is_top path.now) named.items ≡ true))
AnswersWanted only name end list (Ok (Some paths)) =
    AnswersNamed only name end list (Ok paths) × (names_paths only name ≡ true)
    × (list_any (λ (path : Bor (List ℕ)). is_top path.now) paths.items ≡ false)
AnswersWanted only name end list (Err why) = AnswersNamed only name end list (Err why)

-- the line that says that the list with this name has no path, if nothing is counted for this reason; else nothing
abbrev pub emptied_line : Option (Bor (List ℕ)) → Option (List (List ℕ)) → List ℕ
emptied_line (Some name) (Some []) = no_path_line name.now
emptied_line name paths = []
