use Rattle.std.proofs.Common.{map}
use Rattle.lc_arguments.specs.Reports.{report_model}
use Rattle.lc_program.proofs.ReportsRead.{all_read, first_refused, none_left, one_read, parts_refused, reports_left}
use Rattle.lc_program.proofs.report_files.read_all.Goals as goal

pub returns-in_err-more : goal.returns-in_err-more
returns-in_err-more g c =
    let holds = g.Y.System.holds c.args.system.now in
    let unreads = g.Y.System.unreads c.args.system.now in
    parts_refused g.S.Source.may_give holds unreads c.args.attributes.now (map report_model c.args.reports.now) c.args.input.now
    c.read_parts.new.input
    c.from_residual.result c.in_err-more.field-0.0 c.from_residual.ensures.1
    (first_refused g.S.Source.may_give holds unreads c.args.attributes.now (map report_model c.args.reports.now) _ _ _ c.args.input.now
    c.loop-typed.input
    c.read_parts.new.input c.loop-typed.parts.items c.in_err-more.field-0.0 c.loop-typed.invariant
    (reports_left c.args.reports.now c.loop-typed.typed-index _ c.loop-typed-test.true) c.in_err-more.ensures.refused)

pub loop-typed-preserved : goal.loop-typed-preserved
loop-typed-preserved g c =
    one_read g.S.Source.may_give (g.Y.System.holds c.args.system.now) (g.Y.System.unreads c.args.system.now)
    c.args.attributes.now (map report_model c.args.reports.now) _ _ _ c.args.input.now c.loop-typed.input c.read_parts.new.input
    c.loop-typed.parts.items
    c.in_ok-more.more.items c.append.new.self.items c.loop-typed.invariant
    (reports_left c.args.reports.now c.loop-typed.typed-index _ c.loop-typed-test.true) c.in_ok-more.ensures.parts
    c.in_ok-append.ensures.items

pub returns : goal.returns
returns g c =
    all_read g.S.Source.may_give (g.Y.System.holds c.args.system.now) (g.Y.System.unreads c.args.system.now)
    c.args.attributes.now (map report_model c.args.reports.now) _ c.args.input.now c.loop-typed.input c.loop-typed.parts.items
    c.loop-typed.invariant
    (none_left c.args.reports.now c.loop-typed.typed-index c.loop-typed-test.false)
