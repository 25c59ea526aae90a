-- What fewer workers answer, more may answer: those who are left over make no event. A report of a walk over a smaller board is one over a
-- larger board.
use Rattle.std.proofs.Common.{ℕ, ◌≤◌, Bool, false, List, Result, Ok, Err, arith, refl}
use Rattle.lc_board.specs.{ClosedBoard.Promises, WordClose.words_promises, declared.answers.Ended.Ended}
use Rattle.lc_board.proofs.RowsOfWorkers.{legal_for_more, stays_legal}
use Rattle.lc_level.specs.{Answers.Answers, Job.JobModel, TreeAnswers.MayAnswer as MayAnswerBy}
use Rattle.lc_tree.specs.Trees.{Listings, Contents}
use Rattle.lc_walk.specs.{ClosedWalks.AreWhole, Lawful.{Asked, Says}, Rows.{IsWhole, row_of}, WalkOptions.{asked_by, top_of}, Walks.Walks}
use Rattle.lc_walk.specs.declared.{options.Options.Options, row.Row.{Row, TheVariants.{Listed, Faulted}}, report.Report.Report}
use Rattle.lc_walk.specs.{declared.walk_fault.WalkFault.WalkFault, BoardAnswers.{SomeRows, IsWalkReport, IsTooDeepSomewhere, FillsAll}}
use Rattle.lc_walk.specs.BoardAnswers.{WalkAnswers}
use Rattle.lc_board.specs.declared.answers.Ended.TheVariants as ended
use Rattle.lc_walk.specs.declared.walk_fault.WalkFault.TheVariants as fault

module _ (MayAnswer : List ℕ → Answers → Type 0) (ask : Asked) (capacity few many : ℕ) (top : JobModel) (promises : Promises)
    (le : few ≤ many) where
  abbrev rows_of_more : SomeRows MayAnswer ask capacity few top promises → SomeRows MayAnswer ask capacity many top promises
  rows_of_more s = record {
    full = s.full;
    history = s.history;
    rows = s.rows;
    answers = s.answers;
    filled = s.filled;
    walked = record {
      room = s.walked.room;
      legal = legal_for_more capacity few many s.history le s.walked.legal;
      over = s.walked.over;
      numbers = s.walked.numbers;
      in_place = s.walked.in_place;
      lawful = s.walked.lawful;
    };
    may = s.may;
  }

  report_of_more : (r : Report) → IsWalkReport MayAnswer ask capacity few top promises r
      → IsWalkReport MayAnswer ask capacity many top promises r
  report_of_more r w = record {
    found = rows_of_more w.found;
    whole = w.whole;
    report = w.report;
    files_once = w.files_once;
    faults_once = w.faults_once;
    skipped_once = w.skipped_once;
    apart = w.apart;
    one_answer = w.one_answer;
  }

  deep_of_more : IsTooDeepSomewhere MayAnswer ask capacity few top promises → IsTooDeepSomewhere MayAnswer ask capacity many top promises
  deep_of_more d = record { found = rows_of_more d.found; number = d.number; row = d.row; is = d.is; deep = d.deep }

  fills_of_more : FillsAll MayAnswer ask capacity few top promises → FillsAll MayAnswer ask capacity many top promises
  fills_of_more f = record {
    found = rows_of_more f.found;
    filled = f.filled;
    number = f.number;
    row = f.row;
    is = f.is;
    more = f.more;
  }

  pub answers_of_more : (answer : Result Report WalkFault) → WalkAnswers MayAnswer ask capacity few top promises answer
      → WalkAnswers MayAnswer ask capacity many top promises answer
  answers_of_more (Ok r) a = λ keeps. report_of_more r (a keeps)
  answers_of_more (Err fault.Memory) a = tt
  answers_of_more (Err fault.TooManyDirs) a = λ keeps fills. fills_of_more (a keeps fills)
  answers_of_more (Err fault.TooDeep) a = λ keeps. deep_of_more (a keeps)
  answers_of_more (Err other) a = a

-- ---- a larger board

-- a row that is not Broken does not say that a post was refused
whole_says : (ask : Asked) (full : Bool) (e : Ended Row) (a : Answers) (posts : List (ℕ × JobModel)) → IsWhole (row_of e)
    → Says ask full e a posts → Says ask false e a posts
whole_says ask full (ended.Returned (Listed r)) a posts whole s = s
whole_says ask full (ended.Returned (Faulted r)) a posts whole s = s
whole_says ask full (ended.Faulted (Listed r)) a posts whole s = s
whole_says ask full (ended.Faulted (Faulted r)) a posts whole s = s
whole_says ask full other a posts whole s = absurd whole

module _ (MayAnswer : List ℕ → Answers → Type 0) (ask : Asked) (small large workers : ℕ) (top : JobModel) (promises : Promises)
    (le : small ≤ large) where
  abbrev rows_in_room : (s : SomeRows MayAnswer ask small workers top promises) → AreWhole s.rows
      → SomeRows MayAnswer ask large workers top promises
  rows_in_room s whole = record {
    full = false;
    history = s.history;
    rows = s.rows;
    answers = s.answers;
    filled = λ fills full. absurd (cc);
    walked = record {
      room = omega (arith, le, s.walked.room);
      legal = stays_legal small large workers s.history le s.walked.legal;
      over = s.walked.over;
      numbers = s.walked.numbers;
      in_place = s.walked.in_place;
      lawful = λ i e is. (
          let l = s.walked.lawful i e is in
          record { job_is = l.job_is; well_formed = l.well_formed; says = whole_says ask s.full e (s.answers i) _ (whole i e is) l.says }
          );
    };
    may = s.may;
  }

  report_in_room : (r : Report) → IsWalkReport MayAnswer ask small workers top promises r
      → IsWalkReport MayAnswer ask large workers top promises r
  report_in_room r w = record {
    found = rows_in_room w.found w.whole;
    whole = w.whole;
    report = λ depth deep. w.report depth (omega (arith, le, deep));
    files_once = w.files_once;
    faults_once = w.faults_once;
    skipped_once = w.skipped_once;
    apart = w.apart;
    one_answer = λ t one depth deep. w.one_answer t one depth (omega (arith, le, deep));
  }

-- a report of a walk with fewer workers and less room, over a board of words
pub small_report : (lists : List ℕ → Listings) (gives : List ℕ → Contents) (o : Options) (room workers : ℕ) (r : Report) → room ≤ o.max_dirs
    → workers ≤ o.threads → WalkAnswers (MayAnswerBy lists gives) (asked_by o) room workers (top_of o) words_promises (Ok r)
    → Walks lists gives o (Ok r)
small_report lists gives o room workers r rooms few answers =
    report_in_room (MayAnswerBy lists gives) (asked_by o) room o.max_dirs o.threads (top_of o) words_promises rooms r
    (report_of_more (MayAnswerBy lists gives) (asked_by o) room workers o.threads (top_of o) words_promises few r (answers refl))
