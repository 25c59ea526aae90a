use Rattle.std.proofs.Common.{◌≡◌, ap, sym, arith}
use lib.Utf8.{encode}
use Rattle.lc_formats.specs.Shares.{last_block}
use Rattle.lc_formats.proofs.shares.last_block.Goals as goal

pub returns-in-1 : goal.returns-in-1
unfolding encode
returns-in-1 c = let e : c.args.eighths ≡ 1 = omega arith in sym (ap last_block e)

pub returns-in-2 : goal.returns-in-2
unfolding encode
returns-in-2 c = let e : c.args.eighths ≡ 2 = omega arith in sym (ap last_block e)

pub returns-in-3 : goal.returns-in-3
unfolding encode
returns-in-3 c = let e : c.args.eighths ≡ 3 = omega arith in sym (ap last_block e)

pub returns-in-4 : goal.returns-in-4
unfolding encode
returns-in-4 c = let e : c.args.eighths ≡ 4 = omega arith in sym (ap last_block e)

pub returns-in-5 : goal.returns-in-5
unfolding encode
returns-in-5 c = let e : c.args.eighths ≡ 5 = omega arith in sym (ap last_block e)

pub returns-in-6 : goal.returns-in-6
unfolding encode
returns-in-6 c = let e : c.args.eighths ≡ 6 = omega arith in sym (ap last_block e)

pub returns-in-7 : goal.returns-in-7
unfolding encode
returns-in-7 c = let e : c.args.eighths ≡ 7 = omega arith in sym (ap last_block e)
