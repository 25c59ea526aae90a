use Rattle.std.proofs.Common.{rules, ◌≡◌, ◌∙◌, None, sym, ap, option_map}
use Rattle.lc_glob.specs.Path.{path_in, segments_of}
use Rattle.lc_level.specs.{Level.{job_at, child_job}, Reasons.reason_model}
use Rattle.lc_paths.specs.Explanations.Explained.{cited, said_beside}
use Rattle.lc_paths.proofs.Explanations.{Descending.{beside_left, beside_on}, PathSegments.{cut_at, stands_below, path_of_name}}
use Rattle.lc_paths.proofs.explaining.explainer.Explainer.beside.Goals as goal

pub returns-in-Some-2 : goal.returns-in-Some-2
returns-in-Some-2 g c = λ stack.
    let at = cut_at c.names.rest.now c.cut_at_first.result.0.now c.cut_at_first.result.1 c.in-Some.others c.in-Some.is
    c.cut_at_first.ensures.pieces c.cut_at_first.ensures.whole in
    c.skipped.ensures (cited c.args.self.now.reader.filters.now stack)
    ∙ sym (beside_left c.args.self.now.reader.filters.now stack c.names.job c.names.rest.now c.cut_at_first.result.0.now
    c.in-Some.others.now c.args.as_dir at (reason_model c.in-Some-2.reason)
    (sym c.in_ok-reason.ensures ∙ ap (option_map reason_model) c.in-Some-2.is))
    ∙ c.names.invariant.same stack

pub names-preserved : goal.names-preserved
names-preserved g c =
    let name = c.cut_at_first.result.0.now in
    let others = c.in-Some.others.now in
    let at = cut_at c.names.rest.now name c.cut_at_first.result.1 c.in-Some.others c.in-Some.is c.cut_at_first.ensures.pieces
    c.cut_at_first.ensures.whole in
    let here = path_of_name c.args.path.now c.names.job.path c.names.rest.now name others c.names.invariant.stands at in
    let none : c.in_ok-reason.field-0 ≡ None = search rules in
    let child : c.in_ok-job.job ≡ child_job c.names.job name =
    c.in_ok-job.ensures ∙ ap (job_at c.names.job) (c.place_before-at.ensures ∙ here) in
    record {
      stands = stands_below c.args.path.now c.names.job.path c.names.rest.now name others c.names.invariant.stands at c.requires.good
          ∙ ap (λ j. path_in j.path others) (sym child);
      same = λ stack.
          ap (λ j. said_beside c.args.self.now.reader.filters.now stack j (segments_of others) c.args.as_dir) child
          ∙ sym (beside_on c.args.self.now.reader.filters.now stack c.names.job c.names.rest.now name others c.args.as_dir at
          (sym c.in_ok-reason.ensures ∙ ap (option_map reason_model) none))
          ∙ c.names.invariant.same stack;
    }
