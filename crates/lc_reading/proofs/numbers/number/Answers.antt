use Rattle.std.proofs.{Common.{◌≡◌, ◌<◌, ◌^◌, decimal, Ok, arith, ap, ◌∙◌, sym, true}, lemmas.Slice.Eq.bytes_eq-Decides}
use Rattle.std.proofs.lemmas.Fmt.{parse-decimal_wide}
use Rattle.lc_reading.proofs.numbers.number.Goals as goal

pub returns-in_default : goal.returns-in_default
returns-in_default c n lt e =
    let wide : n < 10 ^ 64 = omega arith in
    let is : c.parse.result ≡ Ok n = parse-decimal_wide 128 n c.args.text.now c.parse.result lt wide e c.parse.ensures.value.0 in
    c.in_default.not-Ok n is

pub returns-else-eq : goal.returns-else-eq
returns-else-eq c n lt e =
    let wide : n < 10 ^ 64 = omega arith in
    let is : c.parse.result ≡ Ok n = parse-decimal_wide 128 n c.args.text.now c.parse.result lt wide e c.parse.ensures.value.0 in
    let same : c.in-Ok.number ≡ n = cc in
    let printed : c.format.result.now ≡ c.args.text.now = c.format.ensures.text ∙ ap decimal same ∙ sym e in
    let equal : c.eq.result ≡ true = c.eq.ensures ∙ (bytes_eq-Decides c.format.result.now c.args.text.now).1 printed in cc
