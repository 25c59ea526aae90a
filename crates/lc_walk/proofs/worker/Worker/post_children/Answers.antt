use Rattle.std.proofs.{Common.{◌∷◌, [], ◌++◌, sym, ap, ◌∙◌, append_assoc}, lemmas.List.nil_from_length}
use Rattle.lc_level.proofs.PassedOn.{passed_on}
use Rattle.lc_walk.specs.Posting.{PostsChildren}
use Rattle.lc_walk.proofs.Posted.{posted_none, posted_more, posted_all, refused_first}
use Rattle.lc_walk.proofs.worker.Worker.post_children.Goals as goal

pub returns-in_default-clause-posts : goal.returns-in_default-clause-posts
returns-in_default-clause-posts g c = (0, posted_none _)

pub loop-child-preserved : goal.loop-child-preserved
loop-child-preserved g c =
    let (_, _, _, all, (posted, names)) = c.loop-child.invariant in (
      tt,
      tt,
      c.post_child.ensures.pass,
      append_assoc c.loop-child.yielded (c.in-Some.child ∷ []) c.next.new.self.rest.items ∙ ap (λ x. c.loop-child.yielded ++ x)
          (sym c.in-Some.ensures.steps.0) ∙ all,
      posted_more _ _ _ c.loop-child.yielded c.in-Some.child _ _ posted names c.in_ok-post_child.ensures.posts,
    )

pub returns-in_err-post_child-clause-posts : goal.returns-in_err-post_child-clause-posts
returns-in_err-post_child-clause-posts g c =
    let (_, _, _, all, (posted, names)) = c.loop-child.invariant in
    let cause = c.in_err-post_child.field-0.0 in
    let view = g.B.Pass.Token.view in
    passed_on (PostsChildren c.args.directories.items (view c.args.pass.now) (view c.post_child.new.pass)) c.from_residual.result cause
    c.from_residual.ensures.1
    (refused_first _ _ _ c.loop-child.yielded c.next.new.self.rest.items c.args.directories.items c.in-Some.child cause
    (ap (λ x. c.loop-child.yielded ++ x) (sym c.in-Some.ensures.steps.0) ∙ all) posted c.in_err-post_child.ensures.posts)

pub returns-clause-posts : goal.returns-clause-posts
returns-clause-posts g c =
    let (_, _, _, all, posted) = c.loop-child.invariant in
    posted_all _ _ c.loop-child.yielded c.loop-child.child-iterator.rest.items c.args.directories.items _ all
    (nil_from_length c.loop-child.child-iterator.rest.items (sym c.loop-child.child-iterator.rest.ok.0 ∙ c.in-None.ensures.steps.0)) posted
