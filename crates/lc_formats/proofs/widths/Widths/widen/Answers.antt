use Rattle.std.proofs.Common.{◌≡◌, ◌<◌, List, ℕ, length, ap, ◌∙◌, arith}
use Rattle.lc_formats.specs.Widening.{with_width}
use Rattle.lc_formats.proofs.Widened.{widen_column, widen_more}
use Rattle.lc_formats.proofs.widths.Widths.widen.Goals as goal

pub returns-then-column-columns : goal.returns-then-column-columns
returns-then-column-columns c =
    let ws = c.self.inside.of_columns.items in
    let lengths = ap length c.as_slice-columns.ensures.value in
    let within : c.args.column < length ws = omega (arith, c.if-column-columns.true) in
    widen_column ws c.args.column c.index-own.result.now c.args.width c.max.result within c.index-own.ensures c.max.ensures
    ∙ ap (λ (l : List ℕ). with_width l c.args.column c.args.width) c.self.view_is

pub returns-in_ok-push : goal.returns-in_ok-push
returns-in_ok-push c =
    let ws = c.self.inside.of_columns.items in
    let lengths = ap length c.as_slice-columns.ensures.value in
    let seen : length ws ≡ length c.args.self.now = ap length c.self.view_is in
    let last : c.args.column ≡ length ws = omega (arith, c.requires, c.if-column-columns.false) in
    c.in_ok-push.ensures.items ∙ widen_more ws c.args.column c.args.width last
    ∙ ap (λ (l : List ℕ). with_width l c.args.column c.args.width) c.self.view_is
