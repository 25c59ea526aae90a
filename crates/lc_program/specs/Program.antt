-- How the program ends on its arguments, by what it read and what it wrote to its streams.
use Rattle.std.specs.Prelude.{◌≡◌, ◌⊎◌, ℕ, List, [], Result, Ok, Err}
use Rattle.lc_io.specs.{declared.source.Failed.Failed, Reads.Answer, Writes.{Writes, StopsWriting}}
use Rattle.lc_program.specs.{Causes.{HasNumber, cause_line}, Introductions.Introduces, Replies.{AnswerModel, Reply, ending_of}}
use Rattle.lc_program.specs.{Requests.AnswersRequest, Systems.SystemMay, Tellings.Tells, Typed.AreReadAs}
use Rattle.lc_program.specs.declared.cause.Cause.{Cause, TheVariants.{Memory, Unwritten}}
use Rattle.lc_program.specs.declared.ending.Ending.{Ending, TheVariants.{AnyFile, Done, SomeFaults, Misused, GaveUp}}
use Rattle.lc_program.specs.declared.streams.{Streams.Streams, Terminals.Terminals}
use Rattle.lc_arguments.specs.{Naming.{IsNamingError, IsTextOf, named_command}, Refusals.IsMessage}
use Rattle.lc_arguments.specs.{Words.{AreRefused, Asks, MayShow, faults_in}, declared.request.Request.Request}

abbrev pub status_of : Ending → ℕ
status_of Done = 0
status_of SomeFaults = 1
status_of Misused = 2
status_of (GaveUp _) = 3
status_of AnyFile = 4

module _ {E : Type 0} (may_take : E → List ℕ → Result ℕ Failed → E → Type 0) where
  -- standard error gets the line of a cause; in place of a line with a number, perhaps the line that an allocation failed
  abbrev pub TellsCause : E → Cause → E → Type 0
  TellsCause err cause told = Tells may_take err (cause_line cause) told ⊎ (HasNumber cause × Tells may_take err (cause_line Memory) told)

-- how the program ends that shows a text, such as help: the text was written; or it was not, or not whole, and standard error gets why
abbrev pub EndsShown : {O E : Type 0} → (O → List ℕ → Result ℕ Failed → O → Type 0) → (E → List ℕ → Result ℕ Failed → E → Type 0)
    → List ℕ → O → E → Ending → O → E → Type 0
EndsShown may_take may_tell text out err Done wrote told = Writes may_take out text wrote × (told ≡ err)
EndsShown may_take may_tell text out err SomeFaults wrote told = ⊥
EndsShown may_take may_tell text out err AnyFile wrote told = ⊥
EndsShown may_take may_tell text out err Misused wrote told = ⊥
EndsShown may_take may_tell text out err (GaveUp cause) wrote told =
    (cause ≡ Unwritten) × StopsWriting may_take out text wrote × TellsCause may_tell err cause told

-- what a read of the input may give, and what writes to standard output and to standard error may take
pub record StreamsMay (I O E : Type 0) : Type 1 where
  pub give : I → ℕ → Answer → I → Type 0
  pub take : O → List ℕ → Result ℕ Failed → O → Type 0
  pub tell : E → List ℕ → Result ℕ Failed → E → Type 0

module _ {I O E : Type 0} where
  abbrev pub streams_may : (I → ℕ → Answer → I → Type 0) → (O → List ℕ → Result ℕ Failed → O → Type 0)
      → (E → List ℕ → Result ℕ Failed → E → Type 0) → StreamsMay I O E
  streams_may give take tell = record { give = give; take = take; tell = tell }

module _ {I O E : Type 0} (system : SystemMay) (may : StreamsMay I O E) (words : List (List ℕ)) (terminals : Terminals) where
  -- the arguments make this request, standard error got what the request reads from a terminal, and the request had this reply
  pub record Replies (before : Streams I O E) (request : Request) (reply : Reply) (after : Streams I O E) (said : E) : Type 0 where
    pub free : faults_in words ≡ []
    pub asks : Asks words request
    pub introduces : Introduces may.tell terminals.input request before.err said
    pub answers : AnswersRequest system may.give may.take terminals request before.input before.out reply after.input after.out

  -- a request was answered, standard error got what there is to tell of the answer, and the program ends so
  abbrev pub EndsAnswered : Streams I O E → Ending → Streams I O E → Type 0
  EndsAnswered before ending after =
      (request : Request) × (answer : AnswerModel) × (said : E) × Replies before request (Ok answer) after said
      × (ending_of answer ≡ ending) × Tells may.tell said answer.told after.err

  -- the program stopped a request with an error, for this cause, and standard error got its line
  abbrev pub GivesUp : Streams I O E → Cause → Streams I O E → Type 0
  GivesUp before cause after =
      (request : Request) × (said : E) × Replies before request (Err cause) after said × TellsCause may.tell said cause after.err

  -- the arguments request a text, such as help. Nothing was read, and the text was shown, which names the arguments of its command, or the
  -- program
  abbrev pub Shows : Streams I O E → Ending → Streams I O E → Type 0
  Shows before ending after =
      MayShow (faults_in words) × (after.input ≡ before.input)
      × ((text : List ℕ) × IsTextOf (named_command words) text
      × EndsShown may.take may.tell text before.out before.err ending after.out after.err)

  abbrev pub Ends : Streams I O E → Ending → Streams I O E → Type 0
  -- a request was answered and all is well, or a text was shown
  Ends before Done after = EndsAnswered before Done after ⊎ Shows before Done after
  -- an answer was written, but something could not be read or printed
  Ends before SomeFaults after = EndsAnswered before SomeFaults after
  -- an answer was written that counts a file, or compares sides that differ, which was to be a failure
  Ends before AnyFile after = EndsAnswered before AnyFile after
  -- the arguments are refused: nothing was read, and nothing written but a message, which begins with `error: ` and names an argument
  Ends before Misused after =
      AreRefused words × (after.input ≡ before.input) × (after.out ≡ before.out)
      × ((why : List ℕ) × IsMessage why × IsNamingError words why × Tells may.tell before.err why after.err)
  -- a request was given up for this cause, or a text was not shown, or there was no memory to read the words
  Ends before (GaveUp cause) after =
      GivesUp before cause after
      ⊎ (Shows before (GaveUp cause) after
      ⊎ ((cause ≡ Memory) × (after.input ≡ before.input) × (after.out ≡ before.out) × TellsCause may.tell before.err cause after.err))

module _ {I O E : Type 0} (system : SystemMay) (may : StreamsMay I O E) (typed : List (List ℕ)) (terminals : Terminals) where
  -- the program ends so on the words that were typed: on those that are read for them, or there was no memory to read them
  abbrev pub EndsTyped : Streams I O E → Ending → Streams I O E → Type 0
  EndsTyped before ending after =
      ((words : List (List ℕ)) × AreReadAs system.unlist typed words × Ends system may words terminals before ending after)
      ⊎ ((ending ≡ GaveUp Memory) × (after.input ≡ before.input) × (after.out ≡ before.out)
      × TellsCause may.tell before.err Memory after.err)
