-- What a close answers, of a stored history and the passes.
use Rattle.std.proofs.Common.{◌≡◌, ◌≢◌, ℕ, List, map, length, slice_get, Some, refl, sym, ◌∙◌, ap, subst}
use Rattle.std.proofs.{Common.option_map, lemmas.{List.length-map, Option.slice_get-map}}
use Rattle.lc_board.specs.{Part.part, Bare.{bare, BareEvent}, LegalHistory.{IsLegal, IsOver}}
use Rattle.lc_board.specs.{PlainBoard.{Board, IsAfter}, PlainCalls.{RefusesRows, IsLeastPending, NonePending, cell_of}, Pass.Pass}
use Rattle.lc_board.specs.{Numbers.HasNumbers, RecordedCalls.{RefusesMemory, RefusesRecorded, IsReady, locked_promises}}
use Rattle.lc_board.specs.declared.{plain.cell.Cell.Cell, event.Event.Event, answers.{CloseFault.CloseFault, Ended.Ended}}
use Rattle.lc_board.specs.{ClosedBoard.{Settled, Unfinished, Differs}, RecordedBoard.Record}
use Rattle.lc_board.specs.declared.answers.CloseFault.TheVariants as close
use Rattle.lc_board.proofs.{PlainSteps.{unended, has_numbers, rows_placed, rows_shown, left_status, gone_status}, BareHistories.part_bare}
use Rattle.lc_board.proofs.{Weaving.settled, ReturnedPasses.mapped_from}

-- what lies at a place of a mapped list
pub map_get : {X Y : Type 0} (f : X → Y) (xs : List X) (i : ℕ) (x : X) → slice_get xs i ≡ Some x → slice_get (map f xs) i ≡ Some (f x)
map_get f xs i x h = slice_get-map f xs i ∙ ap (option_map f) h

module _ {J R : Type 0} where
  -- the history that the board stands for is legal for its capacity and its workers
  pub legal_at : (c n : ℕ) (root : J) (h : List (Event J R)) (b : Board J R) → IsAfter root h b → b.capacity ≡ c → length b.held ≡ n
      → IsLegal c n h
  legal_at c n root h b a same count = subst (λ k. IsLegal c k h) count (subst (λ k. IsLegal k (length b.held) h) same a.legal)

  -- a number that is left at close is told, the least of them
  pub unfinished : (c n k : ℕ) (views : List (Pass J R)) (root : J) (h : List (Event J R)) (b : Board J R) → IsAfter root h b
      → b.capacity ≡ c → length b.held ≡ n → IsLeastPending b k → Unfinished c n k locked_promises views
  unfinished c n k views root h b a same count least = record {
    history = h;
    legal = legal_at c n root h b a same count;
    left = left_status root h b k a least.0;
    least = λ m less. gone_status root h b m a (least.1 m less);
    parts = λ no. absurd (cc no);
  }

  -- where nothing is left the history is over
  pub over_when : (root : J) (h : List (Event J R)) (b : Board J R) → IsAfter root h b → NonePending b → IsOver h
  over_when root h b a none k = unended _ _ refl (gone_status root h b k a (none k))

  -- where a pass's list is not its part of the stored history, the passes have no common history
  pub differs : {P : Type 0} (view : P → Pass J R) (c n w : ℕ) (ps : List P) (p : P) (root : J) (h : List (Event J R))
      (es : List BareEvent) (b : Board J R) → IsAfter root h b → b.capacity ≡ c → length b.held ≡ n
      → map bare h ≡ es → NonePending b → slice_get ps w ≡ Some p → ¬ (part w es ≡ map bare (view p).mine) → Differs c n w (map view ps)
  differs view c n w ps p root h es b a same count is none at other = record {
    history = h;
    legal = legal_at c n root h b a same count;
    over = over_when root h b a none;
    pass = view p;
    its = map_get view ps w p at;
    differs = λ x. other (ap (λ (xs : List BareEvent). part w xs) (sym is) ∙ (part_bare w h ∙ x));
  }

  numbers_of_rows : (root : J) (h : List (Event J R)) (b : Board J R) (rows : List (Ended R)) → IsAfter root h b
      → map cell_of rows ≡ b.cells → HasNumbers (length rows) h
  numbers_of_rows root h b rows a cells =
      let len : length b.cells ≡ length rows = ap (λ (cs : List (Cell J R)). length cs) (sym cells) ∙ length-map rows cell_of in
      subst (λ m. HasNumbers m h) len (has_numbers root h b a)

  -- where all are, they have, and the rows are the board's
  pub settled_all : {P : Type 0} (view : P → Pass J R) (c n : ℕ) (root : J) (ps : List P) (first : J) (h : List (Event J R))
      (es : List BareEvent) (b : Board J R) (rows : List (Ended R)) → IsAfter first h b → b.capacity ≡ c → length b.held ≡ n
      → map bare h ≡ es → map cell_of rows ≡ b.cells → length ps ≡ n
      → ((w : ℕ) (p : P) → slice_get ps w ≡ Some p → part w es ≡ map bare (view p).mine)
      → Settled c n root locked_promises (map view ps) rows
  settled_all view c n root ps first h es b rows a same count is cells len each =
      settled c n root (map view ps) h es rows (legal_at c n first h b a same count) (rows_placed first h b rows a cells).0
      (numbers_of_rows first h b rows a cells) (rows_shown first h b rows a cells) is
      (length-map ps view ∙ len)
      (λ w v at. let there = mapped_from view ps w v at in subst (λ (u : Pass J R). part w es ≡ map bare u.mine) there.2
      (each w there.0 there.1))

  -- the pass of a worker tells something else than the history
  pub tells_other : {P : Type 0} (view : P → Pass J R) (ps : List P) (es : List BareEvent) (w : ℕ) (p : P) → slice_get ps w ≡ Some p
      → ¬ (part w es ≡ map bare (view p).mine)
      → (q : Pass J R) → slice_get (map view ps) w ≡ Some q → part w es ≢ map bare q.mine
  tells_other view ps es w p at other q there same =
      let x : Some (view p) ≡ Some q = sym (map_get view ps w p at) ∙ there in
      let is : view p ≡ q = cc x in
      other (same ∙ ap (λ (u : Pass J R). map bare u.mine) (sym is))

  -- so a close finds what its answer needs
  pub ready : {P : Type 0} (view : P → Pass J R) (ps : List P) (b : Board J R) (es : List BareEvent) → NonePending b
      → ((w : ℕ) (p : P) → slice_get ps w ≡ Some p → part w es ≡ map bare (view p).mine)
      → IsReady (record { board = b; history = es }) (map view ps)
  ready view ps b es none each = record {
    none_left = none;
    agrees = λ w v at. let there = mapped_from view ps w v at in subst (λ (u : Pass J R). part w es ≡ map bare u.mine) there.2
        (each w there.0 there.1);
  }

  -- why the rows are refused is why the board is
  pub rows_refused : (r : Record J R) (capacity workers : ℕ) (passes : List (Pass J R)) (f : CloseFault) → RefusesRows r.board f
      → RefusesMemory r capacity workers passes → RefusesRecorded r capacity workers passes f
  rows_refused r capacity workers passes (close.Unfinished n) why ready = why
  rows_refused r capacity workers passes (close.Mismatch w) why ready = absurd why
  rows_refused r capacity workers passes close.Memory why ready = ready
