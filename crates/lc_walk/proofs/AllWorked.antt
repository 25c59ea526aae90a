-- From what each worker has run to what all passes have done.
use Rattle.std.proofs.Common.{◌≡◌, ℕ, zero, suc, ◌<◌, List, [], ◌∷◌, ◌++◌, length, map, slice_get, slice_index_or, refl, sym, ◌∙◌, ap}
use Rattle.std.proofs.{Common.{subst, Option, Some, None, option_map, arith, append-nil}, lemmas.Option.slice_get_within}
use Rattle.std.proofs.lemmas.Option.{get_or_from_slice_get, slice_get-get_or}
use Rattle.std.specs.List.{flat_map}
use Rattle.lc_board.specs.Pass.{Pass, new_pass}
use Rattle.lc_level.specs.{Answers.Answers, Job.JobModel}
use Rattle.lc_walk.specs.{Lawful.Asked, Passes.HaveWorked, Running.{HasRun, AllOver, TalliesAll}, Serving.EndsAs, Tally.TallyModel}
use Rattle.lc_walk.specs.{Tally.{CountedFile, StandsFor}, TreeOfRows.numbers_below, WorkerResults.{AreLawful, FoundOver, TalliesFor}}
use Rattle.lc_walk.specs.{WorkerResults.{files_given, files_of_pass}, declared.row.Row.Row}
use Rattle.lc_walk.specs.declared.worker.{StopReason.TheVariants.Over, WorkerResult.WorkerResult}
use Rattle.lc_walk.proofs.{AnswersOfClose.mapped, Working.lawful_since}

mapped_at : {A B : Type 0} (f : A → B) (xs : List A) (i : ℕ) → slice_get (map f xs) i ≡ option_map f (slice_get xs i)
mapped_at f [] i = refl
mapped_at f (x ∷ xs) zero = refl
mapped_at f (x ∷ xs) (suc i) = mapped_at f xs i

module _ {P : Type 0} (view : P → Pass JobModel Row) (ask : Asked) (MayAnswer : List ℕ → Answers → Type 0) where
  abbrev Ran : ℕ → WorkerResult P → Type 0
  Ran w x = HasRun ask MayAnswer (new_pass w) (view x.pass) x.end x.tally

  -- the answers of a worker's rows
  abbrev answers_of : (w : ℕ) (o : Option (WorkerResult P)) → ((x : WorkerResult P) → o ≡ Some x → Ran w x) → List Answers
  answers_of w None ran = []
  answers_of w (Some x) ran = (ran x refl).worked.answers

  abbrev last : WorkerResult P → Pass JobModel Row
  last x = view x.pass

  lawful_at : (w : ℕ) (o : Option (WorkerResult P)) (ran : (x : WorkerResult P) → o ≡ Some x → Ran w x) (p : Pass JobModel Row)
      → option_map last o ≡ Some p →
      AreLawful ask p.full MayAnswer p.mine (answers_of w o ran)
  lawful_at w None ran p e = let n : None ≡ Some p = e in absurd (cc n)
  lawful_at w (Some x) ran p e =
      let same : view x.pass ≡ p = cc e in
      let r = (ran x refl).worked in
      subst (λ (q : Pass JobModel Row). AreLawful ask q.full MayAnswer q.mine r.answers) same
      (subst (λ given. AreLawful ask (view x.pass).full MayAnswer (view x.pass).mine given) (append-nil r.answers)
      (subst (λ m. AreLawful ask (view x.pass).full MayAnswer m (r.answers ++ [])) (sym r.mine)
      (lawful_since ask (view x.pass).full MayAnswer [] r.since [] r.answers tt r.lawful)))

  ended_at : (w : ℕ) (o : Option (WorkerResult P)) → ((x : WorkerResult P) → o ≡ Some x → Ran w x)
      → ((x : WorkerResult P) → o ≡ Some x → x.end ≡ Over)
      → (p : Pass JobModel Row) → option_map last o ≡ Some p →
      (p.worker ≡ w) × FoundOver p
  ended_at w None ran over p e = let n : None ≡ Some p = e in absurd (cc n)
  ended_at w (Some x) ran over p e =
      let same : view x.pass ≡ p = cc e in
      let r = ran x refl in
      subst (λ (q : Pass JobModel Row). (q.worker ≡ w) × FoundOver q) same
      (r.worked.worker, subst (λ end. EndsAs end (view x.pass)) (over x refl) r.ends)

  tallied_at : (w : ℕ) (o : Option (WorkerResult P)) (ran : (x : WorkerResult P) → o ≡ Some x → Ran w x) (x : WorkerResult P) → o ≡ Some x
      → TalliesFor x.tally (files_of_pass ask (answers_of w o ran) (option_map last o))
  tallied_at w None ran x e = let n : None ≡ Some x = e in absurd (cc n)
  tallied_at w (Some y) ran x e =
      let same : y ≡ x = cc e in
      let r = (ran y refl).worked in
      subst (λ (z : WorkerResult P). TalliesFor z.tally (files_given ask (view y.pass).mine r.answers)) same
      (subst (λ m. TalliesFor y.tally (files_given ask m r.answers)) (sym (r.mine ∙ append-nil r.since)) r.tallied)

  -- each worker began with a new pass and has found the board over, and the tally is that of all their tallies
  pub have_worked : (ps : List P) (back : List (WorkerResult P)) → length back ≡ length ps
      → ((w : ℕ) (p : P) → slice_get ps w ≡ Some p → view p ≡ new_pass w) →
      ((w : ℕ) (p : P) (x : WorkerResult P) → w < length ps →
      HasRun ask MayAnswer (view (slice_index_or ps w p)) (view (slice_index_or back w x).pass) (slice_index_or back w x).end
      (slice_index_or back w x).tally) →
      AllOver back → (tally : TallyModel) → TalliesAll back tally → HaveWorked ask MayAnswer (map view (map (λ x. x.pass) back)) tally
  have_worked ps back len started ran over tally tallies = record {
    given = given;
    lawful = λ w p is. lawful_at w (slice_get back w) (run_of w) p (sym (at w) ∙ is);
    ended = λ w p is. ended_at w (slice_get back w) (run_of w) (over w) p (sym (at w) ∙ is);
    tallied = subst (λ n. StandsFor tally (flat_map files (numbers_below n))) (sym count)
        (tallies files (λ w x is. subst (λ o. TalliesFor x.tally (files_of_pass ask (given w) o)) (sym (at w))
        (tallied_at w (slice_get back w) (run_of w) x is)));
  }
    where
      run_of : (w : ℕ) (x : WorkerResult P) → slice_get back w ≡ Some x → Ran w x
      run_of w x is =
          let low = slice_get_within back w x is in
          let inside : w < length ps = omega (arith, low, len) in
          let p = x.pass in
          subst (λ (f : Pass JobModel Row). HasRun ask MayAnswer f (view x.pass) x.end x.tally)
          (started w _ (slice_get-get_or ps w p inside))
          (subst (λ (y : WorkerResult P). HasRun ask MayAnswer (view (slice_index_or ps w p)) (view y.pass) y.end y.tally)
          (get_or_from_slice_get back w x x is) (ran w p x inside))

      given : ℕ → List Answers
      given w = answers_of w (slice_get back w) (run_of w)

      passes : List (Pass JobModel Row)
      passes = map view (map (λ (x : WorkerResult P). x.pass) back)

      at : (w : ℕ) → slice_get passes w ≡ option_map last (slice_get back w)
      at w = mapped_at view (map (λ (x : WorkerResult P). x.pass) back) w
          ∙ ap (option_map view) (mapped_at (λ (x : WorkerResult P). x.pass) back w) ∙ twice (slice_get back w)
        where
          twice : (o : Option (WorkerResult P)) → option_map view (option_map (λ (x : WorkerResult P). x.pass) o) ≡ option_map last o
          twice None = refl
          twice (Some x) = refl

      files : ℕ → List CountedFile
      files w = files_of_pass ask (given w) (slice_get passes w)

      count : length passes ≡ length back
      count = mapped view (map (λ (x : WorkerResult P). x.pass) back) ∙ mapped (λ (x : WorkerResult P). x.pass) back
