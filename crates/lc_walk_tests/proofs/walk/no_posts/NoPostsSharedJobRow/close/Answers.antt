use Rattle.std.proofs.{Common.{ℕ, ◌≤◌, false, List}, lemmas.Result.{IfOk-weaker, IfErr-weaker}}
use Rattle.lc_board.specs.{ClosedBoard.{Promises, Settled, RefusesClose}, Pass.Pass, declared.answers.{CloseFault.CloseFault, Ended.Ended}}
use Rattle.lc_board.proofs.RowsOfWorkers.{stays_legal}
use Rattle.lc_board.specs.declared.answers.CloseFault.TheVariants as close
use Rattle.lc_walk_tests.proofs.walk.no_posts.NoPostsSharedJobRow.close.Goals as goal

abbrev not_filling : Promises → Promises
not_filling p = record { keeps = p.keeps; compares = p.compares; fills = false }

-- what `close` of a board returns is also allowed for a larger board that promises nothing of posts that return Full
module _ {J R : Type 0} (c d n : ℕ) (le : c ≤ d) (promises : Promises) (passes : List (Pass J R)) where
  settled_larger : (root : J) (rows : List (Ended R)) → Settled c n root promises passes rows
      → Settled d n root (not_filling promises) passes rows
  settled_larger root rows s = record {
    history = s.history;
    legal = stays_legal c d n s.history le s.legal;
    over = s.over;
    parts = s.parts;
    numbers = s.numbers;
    shown = s.shown;
    in_place = s.in_place;
    all_used = λ e. absurd (cc e);
  }

  refused_larger : (fault : CloseFault) → RefusesClose c n promises passes fault
      → RefusesClose d n (not_filling promises) passes fault
  refused_larger (close.Unfinished k) u = record {
    history = u.history;
    legal = stays_legal c d n u.history le u.legal;
    left = u.left;
    least = u.least;
    parts = u.parts;
  }
  refused_larger (close.Mismatch w) m = (
    m.0,
    record {
      history = m.1.history;
      legal = stays_legal c d n m.1.history le m.1.legal;
      over = m.1.over;
      pass = m.1.pass;
      its = m.1.its;
      differs = m.1.differs;
    },
  )
  refused_larger close.Memory f = λ e. let finished = f e in record {
    history = finished.history;
    legal = stays_legal c d n finished.history le finished.legal;
    over = finished.over;
    parts = finished.parts;
  }

pub returns-clause-settled : goal.returns-clause-settled
returns-clause-settled g c =
    IfOk-weaker c.close.result _ _
    (λ closed settled root is.
    settled_larger _ c.args.self.capacity _ c.args.self.room g.B.Shared.promises _ root closed.rows.items (settled root is))
    c.close.ensures.settled

pub returns-clause-fault : goal.returns-clause-fault
returns-clause-fault g c =
    IfErr-weaker c.close.result _ _
    (refused_larger _ c.args.self.capacity _ c.args.self.room g.B.Shared.promises _)
    c.close.ensures.fault
