use Rattle.std.proofs.Common.{rules, arith, ◌≡◌, ◌≤◌, length, map, slice_get, Some, sym, ap, ◌∙◌, subst, refl}
use Rattle.std.proofs.lemmas.Option.{slice_get-get_or}
use Rattle.lc_board.proofs.ReturnedPasses.{still_in_order, taken_in_order}
use Rattle.lc_board.specs.Limits.{capacity_limit}
use Rattle.lc_level.specs.{Job.JobModel, TreeAnswers.MayAnswer}
use Rattle.lc_walk.specs.{Passes.HaveWorked, WalkOptions.asked_by}
use Rattle.lc_walk.proofs.{AllWorked.have_worked, AnswersOfClose.mapped}
use Rattle.lc_walk.proofs.walking.walk_by.Goals as goal

pub run_all-requires-after_bounds : goal.run_all-requires-after_bounds
run_all-requires-after_bounds g c κs within = λ i p low at.
    let first = c.in-Ok-start.ensures.passes i p (slice_get-get_or c.in-Ok-start.passes.items i p low ∙ ap Some (sym at)) in
    (first.0, rw first.1 refl)

pub finish-requires-after_bounds : goal.finish-requires-after_bounds
finish-requires-after_bounds g c κs within =
    let view = g.B.Pass.Token.view in
    let owns = g.B.Shared.owns c.in-Ok-start.board in
    let board = c.in-Ok-start.ensures.board in
    let limits = c.requires.limits in
    let same : length c.in-Ok-run_all.workers.items ≡ length c.in-Ok-start.passes.items =
    sym c.in-Ok-run_all.workers.ok.0 ∙ c.in-Ok-run_all.ensures.all ∙ c.in-Ok-start.passes.ok.0 in
    record {
      room = subst (λ n. (1 ≤ n) × (n ≤ capacity_limit)) (sym board.0)
          (c.requires.room.0, omega (arith, c.requires.room.1, limits.few_dirs));
      workers = subst (λ n. 1 ≤ n) (sym board.1) c.requires.workers.0;
      top = (_, board.2, ap (λ (j : JobModel). j.path) c.in-Ok.ensures);
      all = ap length c.in-Some.ensures.passes ∙ mapped (λ x. x.pass) c.in-Ok-run_all.workers.items ∙ same
          ∙ sym c.in-Ok-start.passes.ok.0 ∙ c.in-Ok-start.ensures.count ∙ sym board.1;
      each = λ w p at. taken_in_order view owns (λ x. x.pass) c.in-Ok-run_all.workers.items
          (still_in_order view owns (λ x. x.pass) c.in-Ok-start.passes.items c.in-Ok-run_all.workers.items same
          c.in-Ok-start.ensures.passes
          (λ i q x low. let r = c.in-Ok-run_all.ensures.each i q x low in (r.0, r.1.worked.worker)))
          w p (ap (λ ps. slice_get ps w) (sym c.in-Some.ensures.passes) ∙ at);
    }

pub returns : goal.returns
returns g c =
    let view = g.B.Pass.Token.view in
    let ask = asked_by c.args.options.now in
    let may = MayAnswer (g.T.Tree.lists c.args.tree.now) (g.T.Tree.gives c.args.tree.now) in
    let same = sym c.in-Ok-run_all.workers.ok.0 ∙ c.in-Ok-run_all.ensures.all ∙ c.in-Ok-start.passes.ok.0 in
    let told = c.finish.ensures c.args.tree.now (asked_by c.args.options.now).filters
    (subst (λ ps. HaveWorked ask may (map view ps) c.in-Some.gathered.tally) (sym c.in-Some.ensures.passes)
    (have_worked view ask may c.in-Ok-start.passes.items c.in-Ok-run_all.workers.items same
    (λ w p is. (c.in-Ok-start.ensures.passes w p is).1)
    (λ i q x low. (c.in-Ok-run_all.ensures.each i q x low).1)
    c.in-Some.ensures.over c.in-Some.gathered.tally c.in-Some.ensures.tally)) in
    search (rules, told)
