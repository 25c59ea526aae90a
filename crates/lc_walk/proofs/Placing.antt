-- Lawful rows in place make a tree.
use Rattle.std.proofs.{lemmas.{Grind.common_steps, Option.slice_get_within}, Common.{◌≡◌, ◌≢◌, ℕ, suc, Bool, List, [], slice_get, sym, ◌∙◌}}
use Rattle.std.proofs.Common.{ap, arith, subst, Some, ◌⊎◌, inl, inr}
use Rattle.lc_board.specs.{State.{Absent, status}, LegalHistory.posts_under, declared.{event.Event.Event, answers.Ended.Ended}}
use Rattle.lc_level.specs.{Answers.Answers, Job.JobModel}
use Rattle.lc_walk.specs.{Found.children_at, RowViews.ChildModel, Rows.{row_of, job_of, children_in}, Lawful.{Asked, named}}
use Rattle.lc_walk.specs.{TreeOfRows.children_at_row, ClosedWalks.{Walked, AreWhole}, Assembled.{IsLinkedOnce, IsPlaced}}
use Rattle.lc_walk.specs.declared.row.Row.{Row}
use Rattle.lc_board.proofs.{PostedNumbers.start, Parents.{IsIn, parent, one_parent, posts_once, posted_above}}
use Rattle.lc_walk.proofs.{WalkOfRows.{row_here, job_or, job_at, inside, there, job_at_top, own_jobs, fits}, ChildPlaces.child_posted}
use Rattle.lc_walk.proofs.ChildPlaces.{one_place, posted_child}

module _ (ask : Asked) (full : Bool) (capacity workers : ℕ) (top : JobModel) (h : List (Event JobModel Row)) (rows : List (Ended Row))
    (answers : ℕ → Answers)
    (walked : Walked ask full capacity workers top h rows answers) (whole : AreWhole rows) (at_top : top.path ≡ []) where
  abbrev job : ℕ → JobModel
  job i = job_at ask full capacity workers top h rows answers walked i

  abbrev children_of_number : ℕ → List (List ℕ × JobModel)
  children_of_number i = children_at ask.filters (job i) (answers i)

  job_here : (i : ℕ) (e : Ended Row) → slice_get rows i ≡ Some e → job_of (row_of e) ≡ job i
  job_here i e is = ap (job_or top) (sym is)

  -- a child that a row names was posted under its number
  named_here : (p : ℕ) (e : Ended Row) → slice_get rows p ≡ Some e → children_in (row_of e) ≡ named (children_of_number p) (posts_under p h)
  named_here p e is =
      ap children_at_row (sym is) ∙ (fits ask full capacity workers top h rows answers walked whole p
      (there ask full capacity workers top h rows answers walked p (slice_get_within rows p e is))).children

  in_posts : (p k : ℕ) (e : Ended Row) (i : ℕ) (c : ChildModel) → slice_get rows p ≡ Some e
      → slice_get (children_in (row_of e)) i ≡ Some c → c.number ≡ k → IsIn k (posts_under p h)
  in_posts p k e i c is here n =
      subst (λ m. IsIn m (posts_under p h)) n (child_posted (children_of_number p) (posts_under p h) i c
      (ap (λ cs. slice_get cs i) (sym (named_here p e is)) ∙ here))

  links : (k : ℕ) (e : Ended Row) → slice_get rows k ≡ Some e → (p : ℕ) → status h p ≢ Absent → IsIn k (posts_under p h)
      → IsLinkedOnce rows k (row_of e)
  links k e is p a i =
      let r = row_here rows p (inside ask full capacity workers top h rows answers walked p a) in
      let f = fits ask full capacity workers top h rows answers walked whole p a in
      let c = posted_child (job p).path job (children_of_number p) (posts_under p h) k f.jobs f.named_so
      (own_jobs ask full capacity workers top h rows answers walked p) i in
      record {
        parent = p;
        at = c.at;
        lower = posted_above capacity workers top h walked.legal p k i;
        edge = record {
          above = r.row;
          is = r.is;
          child = c.child;
          here = grind (arith, common_steps, named_here);
          number = c.number;
        };
        path = grind (arith, common_steps, job_here);
        only = λ q n edge.
            let same : q ≡ p = one_parent capacity workers top h walked.legal q p k
            (in_posts q k edge.above n edge.child edge.is edge.here edge.number) i in
            let theirs : slice_get (named (children_of_number q) (posts_under q h)) n ≡ Some edge.child = ap (λ cs. slice_get cs n)
            (sym (named_here q edge.above edge.is)) ∙ edge.here in (
              same,
              one_place (children_of_number p) (posts_under p h) n c.at edge.child c.child
                  (posts_once capacity workers top h walked.legal p)
                  (subst (λ x. slice_get (named (children_of_number x) (posts_under x h)) n ≡ Some edge.child) same theirs) c.here
                  (edge.number ∙ sym c.number),
            );
      }

  top_placed : IsPlaced rows 0
  top_placed =
      let r = row_here rows 0 (inside ask full capacity workers top h rows answers walked 0 (start h)) in (
        r.row,
        r.is,
        ap (λ (j : JobModel). j.path) (job_here 0 r.row r.is ∙ job_at_top ask full capacity workers top h rows answers walked)
            ∙ at_top,
      )

  below_placed : (k : ℕ) (e : Ended Row) → slice_get rows (suc k) ≡ Some e → IsLinkedOnce rows (suc k) (row_of e)
  below_placed k e is = at (parent capacity workers h walked.legal (suc k)
      (there ask full capacity workers top h rows answers walked (suc k) (slice_get_within rows (suc k) e is)))
    where
      at : (suc k ≡ 0) ⊎ ((p : ℕ) × (status h p ≢ Absent) × IsIn (suc k) (posts_under p h)) → IsLinkedOnce rows (suc k) (row_of e)
      at (inl z) = absurd (omega arith)
      at (inr p) = links (suc k) e is p.0 p.1 p.2

  -- each number is linked where the row above says
  pub placed : (k : ℕ) → IsPlaced rows k
  placed k = grind (arith, common_steps, top_placed, below_placed)
