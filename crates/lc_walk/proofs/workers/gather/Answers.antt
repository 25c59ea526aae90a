use Rattle.std.proofs.{Common.{◌∷◌, [], ◌++◌, sym, ap, ◌∙◌, subst, append_assoc}, lemmas.List.{map-append, nil_from_length}}
use Rattle.lc_walk.specs.{Running.TalliesAll, declared.worker.WorkerResult.WorkerResult}
use Rattle.lc_walk.proofs.Gathering.{over_more, tallies_more, all_done}
use Rattle.lc_walk.proofs.workers.gather.Goals as goal

pub loop-worked-preserved : goal.loop-worked-preserved
loop-worked-preserved g c =
    let (all, over, passes, tallies) = c.loop-worked.invariant in (
      append_assoc c.loop-worked.yielded (c.in-Some.worked ∷ []) c.next.new.self.rest.items ∙ ap (λ x. c.loop-worked.yielded ++ x)
          (sym c.in-Some.ensures.steps.0) ∙ all,
      over_more c.loop-worked.yielded c.in-Some.worked over c.in_ok-gathered.ensures.over,
      c.in_ok-gathered.ensures.pass ∙ ap (λ ps. ps ++ c.in-Some.worked.pass ∷ []) passes
          ∙ sym (map-append (λ (w : WorkerResult _). w.pass) c.loop-worked.yielded (c.in-Some.worked ∷ [])),
      tallies_more c.loop-worked.yielded c.in-Some.worked c.loop-worked.gathered.tally c.in_ok-gathered.gathered.tally tallies
          c.in_ok-gathered.ensures.tally,
    )

pub returns-clause-tally : goal.returns-clause-tally
returns-clause-tally g c =
    let (all, over, passes, tallies) = c.loop-worked.invariant in
    let none = nil_from_length c.loop-worked.worked-iterator.rest.items
    (sym c.loop-worked.worked-iterator.rest.ok.0 ∙ c.in-None.ensures.steps.0) in
    subst (λ ws. TalliesAll ws c.loop-worked.gathered.tally) (all_done _ _ _ all none) tallies
