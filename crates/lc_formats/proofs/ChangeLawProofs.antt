-- Proofs of what is true of the changes of numbers.
use Rattle.std.proofs.{lemmas.{Grind.common_steps, Bool.{ltb-true, ne_eqb, Decides.nat_tests}, Fmt.decimal_digit}, Common.{◌≡◌, ◌==◌, ℕ}}
use Rattle.std.proofs.{Common.{nat_lt, false, if◌then◌else◌, [], ◌++◌, codes, decimal, ap, ◌∙◌, arith}}
use Rattle.std.specs.Int.{abs_diff}
use Rattle.lc_formats.specs.{CellWords.{sign, with_commas}, ChangeLaws.{ChangeLaw, GrowthLaw, NoChangeLaw}, Shares.rounded_parts}
use Rattle.lc_formats.specs.Shares.{share_word}
use Rattle.lc_formats.proofs.{CommaLawProofs.commas_law, ShareLawProofs.nearest_law}

apart_none : (old new : ℕ) → nat_lt old new ≡ false → nat_lt new old ≡ false → abs_diff old new ≡ 0
apart_none old new e f = grind (arith, nat_tests)

stays : (n : ℕ) → n ≡ 0 → with_commas (decimal n) ≡ codes "0"
stays n none = ap (λ m. with_commas (decimal m)) none ∙ ap with_commas (decimal_digit 0 (omega arith))

pub change_law : ChangeLaw
change_law = grind (arith, common_steps, commas_law, ltb-true, apart_none, stays)

pub no_change_law : NoChangeLaw
no_change_law = grind (arith, common_steps, ltb-true, stays, apart_none)

pub growth_law : GrowthLaw
growth_law old new some =
    let tenths = rounded_parts 1000 (abs_diff old new) old in
    let nearest = nearest_law 1000 (abs_diff old new) old some in (
      tenths,
      ap (λ b. if b then if new == 0 then [] else codes "new" else sign old new ++ share_word tenths) (ne_eqb old 0 (λ e. omega arith)),
      nearest.0,
      nearest.1,
    )
