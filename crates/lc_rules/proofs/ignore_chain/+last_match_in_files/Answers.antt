use Rattle.std.proofs.Common.{◌∙◌, None, Some, ap, refl}
use Rattle.std.specs.Prelude.{option_map}
use Rattle.lc_rules.specs.{IgnoreChains.joined, Verdicts.{last_match, below}, declared.rule_source.RuleSource.TheVariants.Gitignore}
use Rattle.lc_rules.proofs.LastRule.{nearer_decide}
use Rattle.lc_rules.proofs.ignore_chain.+last_match_in_files.Goals as goal

pub returns-in-Some : goal.returns-in-Some
returns-in-Some t c =
    let path = c.args.path.path.now in
    let is_dir = c.args.is_dir in
    let inner = c.at-inner.result in
    let same = c.at-inner.ensures.path in
    let cut = inner.cut ∙ ap (λ d. below d inner.path.now) c.at-inner.ensures.depth ∙ ap (below c.in_ok-depth.depth) same in
    nearer_decide c.args.files c.in_ok-depth.nearer c.in_ok-depth.depth c.in_ok-depth.file.now c.in_ok-depth.ensures
    path inner.rest.now cut is_dir (Some (Gitignore c.in-Some.found.0, c.in-Some.found.1.now)) _
    (c.in-Some.ensures ∙ ap (λ p. last_match (joined c.in_ok-depth.nearer) p is_dir) same) refl

pub returns-in_err-rule : goal.returns-in_err-rule
returns-in_err-rule t c =
    let path = c.args.path.path.now in
    let is_dir = c.args.is_dir in
    let inner = c.at-inner.result in
    let same = c.at-inner.ensures.path in
    let cut = inner.cut ∙ ap (λ d. below d inner.path.now) c.at-inner.ensures.depth ∙ ap (below c.in_ok-depth.depth) same in
    ap (option_map (λ r. (Gitignore r.0, r.1.now))) c.from_residual-in_err-rule.ensures
    ∙ nearer_decide c.args.files c.in_ok-depth.nearer c.in_ok-depth.depth c.in_ok-depth.file.now c.in_ok-depth.ensures
    path inner.rest.now cut is_dir None None
    (c.in_default.ensures ∙ ap (λ p. last_match (joined c.in_ok-depth.nearer) p is_dir) same) c.in_err-rule.ensures

pub returns : goal.returns
returns t c =
    let path = c.args.path.path.now in
    let is_dir = c.args.is_dir in
    let inner = c.at-inner.result in
    let same = c.at-inner.ensures.path in
    let cut = inner.cut ∙ ap (λ d. below d inner.path.now) c.at-inner.ensures.depth ∙ ap (below c.in_ok-depth.depth) same in
    nearer_decide c.args.files c.in_ok-depth.nearer c.in_ok-depth.depth c.in_ok-depth.file.now c.in_ok-depth.ensures
    path inner.rest.now cut is_dir None (Some (Gitignore 0, c.in_ok-rule.rule.now))
    (c.in_default.ensures ∙ ap (λ p. last_match (joined c.in_ok-depth.nearer) p is_dir) same) c.in_ok-rule.ensures
