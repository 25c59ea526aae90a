use Rattle.std.proofs.Common.{rules, ◌≡◌, None, true, sym, ◌∙◌, ap, ap₂}
use Rattle.std.specs.Prelude.{option_map}
use Rattle.lc_glob.specs.Path.{path_in, segments_of}
use Rattle.lc_level.specs.{Job.JobModel, Level.{reason_for, job_at, child_job}, Reasons.reason_model}
use Rattle.lc_paths.specs.Explanations.{Explained.{cited, kind_asked, is_directory, said_beside}, OpenDirs.{OpenDirModel, MayEnter}}
use Rattle.lc_paths.proofs.Explanations.{PathSegments.{cut_at, path_of_name, stands_below}, Reaching.{skipped_said, beside_said}}
use Rattle.lc_paths.proofs.explaining.explainer.Explainer.step.Goals as goal

pub returns-in-Some-2 : goal.returns-in-Some-2
returns-in-Some-2 g c = λ stack.
    let enters = MayEnter (g.T.Tree.lists c.args.self.now.reader.tree.now) (g.T.Tree.gives c.args.self.now.reader.tree.now) in
    let f = c.args.self.now.reader.filters.now in
    let here = c.args.here.now in
    let name = c.cut_at_first.result.0.now in
    let others = c.in-Some.others.now in
    let at = cut_at _ _ _ _ c.in-Some.is c.cut_at_first.ensures.pieces c.cut_at_first.ensures.whole in
    let job : c.here.inside.job ≡ here.job = ap (λ (w : OpenDirModel). w.job) c.here.view_is in
    let asked = ap₂ (λ (j : JobModel) k. reason_for f j name k) job (c.kind_asked-2.ensures ∙ ap (kind_asked true) c.kind-there.ensures) in
    skipped_said enters f stack here c.args.rest.now name others c.args.as_dir _ at.cut (reason_model c.in-Some-2.reason)
    (sym asked ∙ sym c.in_ok-reason.ensures ∙ ap (option_map reason_model) c.in-Some-2.is) (c.skipped.ensures (cited f stack))

pub returns-then-is_directory : goal.returns-then-is_directory
returns-then-is_directory g c =
    let f = c.args.self.now.reader.filters.now in
    let here = c.args.here.now in
    let name = c.cut_at_first.result.0.now in
    let others = c.in-Some.others.now in
    let at = cut_at _ _ _ _ c.in-Some.is c.cut_at_first.ensures.pieces c.cut_at_first.ensures.whole in
    let job : c.here.inside.job ≡ here.job = ap (λ (w : OpenDirModel). w.job) c.here.view_is in
    let asked = ap₂ (λ (j : JobModel) k. reason_for f j name k) job (c.kind_asked-2.ensures ∙ ap (kind_asked true) c.kind-there.ensures) in
    let found : c.in_ok-reason.field-0 ≡ None = search rules in
    let none = sym asked ∙ sym c.in_ok-reason.ensures ∙ ap (option_map reason_model) found in
    let child : c.in_ok-job.job ≡ child_job here.job name = c.in_ok-job.ensures ∙ ap₂ job_at job (c.place_before-place.ensures
    ∙ path_of_name c.args.path.now here.job.path c.args.rest.now name others c.requires.stands at) in
    let there = ap is_directory (sym c.kind-there.ensures) ∙ sym c.is_directory.ensures ∙ c.if-is_directory.true in
    (record { name = name; at = at; none = none; is_there = there; is = child }, sym (ap (λ (j : JobModel). j.path) c.in_ok-job.ensures))

pub beside-requires-clause-stands : goal.beside-requires-clause-stands
beside-requires-clause-stands g c κs within =
    let here = c.args.here.now in
    let name = c.cut_at_first.result.0.now in
    let others = c.in-Some.others.now in
    let at = cut_at _ _ _ _ c.in-Some.is c.cut_at_first.ensures.pieces c.cut_at_first.ensures.whole in
    let job : c.here.inside.job ≡ here.job = ap (λ (w : OpenDirModel). w.job) c.here.view_is in
    let child : c.in_ok-job.job ≡ child_job here.job name = c.in_ok-job.ensures ∙ ap₂ job_at job (c.place_before-place.ensures
    ∙ path_of_name c.args.path.now here.job.path c.args.rest.now name others c.requires.stands at) in
    stands_below c.args.path.now here.job.path c.args.rest.now name others c.requires.stands at c.requires.good
    ∙ ap (λ (j : JobModel). path_in j.path others) (sym child)

pub returns : goal.returns
returns g c = λ stack.
    let enters = MayEnter (g.T.Tree.lists c.args.self.now.reader.tree.now) (g.T.Tree.gives c.args.self.now.reader.tree.now) in
    let f = c.args.self.now.reader.filters.now in
    let here = c.args.here.now in
    let name = c.cut_at_first.result.0.now in
    let others = c.in-Some.others.now in
    let at = cut_at _ _ _ _ c.in-Some.is c.cut_at_first.ensures.pieces c.cut_at_first.ensures.whole in
    let job : c.here.inside.job ≡ here.job = ap (λ (w : OpenDirModel). w.job) c.here.view_is in
    let asked = ap₂ (λ (j : JobModel) k. reason_for f j name k) job (c.kind_asked-2.ensures ∙ ap (kind_asked true) c.kind-there.ensures) in
    let found : c.in_ok-reason.field-0 ≡ None = search rules in
    let none = sym asked ∙ sym c.in_ok-reason.ensures ∙ ap (option_map reason_model) found in
    let child : c.in_ok-job.job ≡ child_job here.job name = c.in_ok-job.ensures ∙ ap₂ job_at job (c.place_before-place.ensures
    ∙ path_of_name c.args.path.now here.job.path c.args.rest.now name others c.requires.stands at) in
    let there = ap is_directory (sym c.kind-there.ensures) ∙ sym c.is_directory.ensures ∙ c.if-is_directory.false in
    beside_said enters f stack here c.args.rest.now name others c.args.as_dir _ at.cut none there
    (c.in_ok-finding-2.ensures stack
    ∙ ap (λ (j : JobModel). said_beside f stack j (segments_of others) c.args.as_dir) child)
