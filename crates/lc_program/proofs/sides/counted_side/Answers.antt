use Rattle.std.proofs.Common.{◌∙◌, ap, inl, refl}
use Rattle.lc_program.proofs.FoundLists.{languages_listed, one_listed}
use Rattle.lc_program.proofs.SidesGiven.{side_counted, side_unlisted}
use Rattle.lc_program.specs.Systems.{SystemMay, may_of}
use Rattle.lc_walk.specs.declared.options.ReportLists.{ReportLists}
use Rattle.lc_program.proofs.sides.counted_side.Goals as goal

pub returns-then-has_path-clause-counts : goal.returns-then-has_path-clause-counts
returns-then-has_path-clause-counts g c =
    let system = c.args.system.now in
    let may : SystemMay = may_of g.Y.Tree.Tree g.Y.System system in
    side_unlisted may c.args.how.walk.now c.args.how.options.now c.args.how.attributes.now c.args.name.now c.entered_by.result
    c.entered_by.ensures c.in-Ok.report _ c.deref.result.now c.has_path.result c.unread_cause.result c.in-Ok.ensures c.has_path.ensures
    c.if-has_path.true refl
    c.deref.ensures.value (inl (c.in_ok-why.why, c.in_ok-why.ensures, c.unread_cause.ensures))

pub returns-clause-counts : goal.returns-clause-counts
returns-clause-counts g c =
    let system = c.args.system.now in
    let may : SystemMay = may_of g.Y.Tree.Tree g.Y.System system in
    side_counted may c.args.how.walk.now c.args.how.options.now c.args.how.attributes.now c.args.name.now c.entered_by.result
    c.entered_by.ensures c.in-Ok.report c.in_ok-report.report _ c.deref.result.now c.has_path.result c.in-Ok.ensures c.has_path.ensures
    c.if-has_path.false refl c.deref.ensures.value c.in_ok-report.ensures

pub returns-clause-files : goal.returns-clause-files
returns-clause-files g c = λ asked.
    ap (λ (lists : ReportLists). lists.files)
    (languages_listed c.args.how.attributes.now c.in-Ok.report c.in_ok-report.report c.in_ok-report.ensures)
    ∙ one_listed (λ d. g.Y.Tree.Tree.lists (g.Y.System.tree c.args.system.now d c.entered_by.result))
    (λ d. g.Y.Tree.Tree.gives (g.Y.System.tree c.args.system.now d c.entered_by.result)) c.args.how.options.now c.args.name.now
    c.in-Ok.report c.in-Ok.ensures asked
