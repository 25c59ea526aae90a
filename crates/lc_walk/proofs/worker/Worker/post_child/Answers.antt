use Rattle.std.proofs.Common.{ℕ, List, ◌∷◌, [], ◌++◌, refl, ap, ◌∙◌, arith}
use Rattle.lc_level.specs.Job.{JobModel}
use Rattle.lc_walk.specs.RowViews.{ChildModel}
use Rattle.lc_walk.proofs.Posted.{posted_none, posted_noted, posted_unnoted, posted_full}
use Rattle.lc_walk.proofs.worker.Worker.post_child.Goals as goal
use Rattle.lc_walk.proofs.worker.Worker.post_child.Goals.{in-Ok-push, in-Err}

pub returns-in-Err-Full-clause-posts : goal.returns-in-Err-Full-clause-posts
returns-in-Err-Full-clause-posts g c = rw (c.post.ensures.mine, c.in-Err-Full.is, c.in-Err-Full.field-0-is)
    (0, posted_full _, refl, omega arith)

pub returns-in-Err-Memory-clause-posts : goal.returns-in-Err-Memory-clause-posts
returns-in-Err-Memory-clause-posts g c = rw (c.post.ensures.mine, c.in-Err-Memory.is, c.in-Err-Memory.field-0-is) (0, posted_none _)

pub returns-clause-posts : goal.returns-clause-posts
returns-clause-posts g c =
    let job = ap (λ (x : List ℕ × JobModel). x.1) c.child.view_is in
    let name = ap (λ (x : List ℕ × JobModel). x.0) c.child.view_is in
    elim c.match-push.branch [
      | in-Ok-push w ↦
          rw (w.result-is, c.post.ensures.mine, c.in-Ok.is, c.in-Ok.number-is) (
          posted_noted _ c.in-Ok.number c.child.inside.job c.args.child _ _ job
          (w.in-Ok-push.ensures.items ∙ ap (λ (n : List ℕ). c.args.children.now.items
          ++ (let m : ChildModel = record { name = n; number = c.in-Ok.number } in m) ∷ []) name)
          )
      | in-Err w ↦ rw (w.result-is, c.post.ensures.mine, c.in-Ok.is, c.in-Ok.number-is)
          (posted_unnoted _ c.in-Ok.number c.child.inside.job c.args.child [] [] job)
    ]
