use Rattle.std.proofs.Common.{◌≡◌, ◌<◌, ◌^◌, arith, decimal}
use Rattle.lc_reading.proofs.Decimals.{same_number}
use Rattle.lc_reading.proofs.values.count_in.Goals as goal

pub returns-in-Err-clause-refused : goal.returns-in-Err-clause-refused
returns-in-Err-clause-refused c n lt has =
    let read = c.in_ok-number.ensures.number in
    let text : decimal c.in_ok-number.number ≡ decimal n = cc in
    let fits : n < 2 ^ 128 = omega arith in
    let same : c.in_ok-number.number ≡ n = same_number c.in_ok-number.number n c.in_ok-number.ensures.fits fits text in
    c.in-Err.ensures (omega arith)
