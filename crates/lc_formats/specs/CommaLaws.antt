-- What is true of numbers with commas.
use Rattle.std.specs.{Prelude.{◌≡◌, ℕ, ◌<◌, ◌^◌, ◌==◌, not, filter, decimal}, Str.Parse.digits_value}
use Rattle.lc_formats.specs.CellWords.{with_commas}

-- the digits of a number without the commas have the value of the number
abbrev pub CommasLaw : Type 0
CommasLaw = (n : ℕ) → n < 2 ^ 128 → digits_value 10 (filter (λ d. not (d == 44)) (with_commas (decimal n))) ≡ n
