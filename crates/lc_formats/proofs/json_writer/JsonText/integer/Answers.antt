use Rattle.std.proofs.Common.{sym, subst, List, ℕ, arith}
use Rattle.json.specs.Print.{IsNumber}
use Rattle.lc_formats.proofs.Decimals.{IsNumber-decimal}
use Rattle.lc_formats.proofs.json_writer.JsonText.integer.Goals as goal

pub number-requires : goal.number-requires
number-requires c =
    subst (λ (s : List ℕ). IsNumber s) (sym c.format.ensures.text) (IsNumber-decimal c.args.n (omega (arith, c.ranges.n.fits)))
