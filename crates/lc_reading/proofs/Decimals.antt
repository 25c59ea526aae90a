-- A text is the digits of one number.
use Rattle.std.proofs.{Common.{ℕ, ◌≡◌, ◌<◌, ◌^◌, ◌∙◌, arith, sym, ap, decimal}, lemmas.Fmt.decimal_is_IsNumeral_wide}
use Rattle.std.specs.Str.Parse.{digits_value}

pub same_number : (m n : ℕ) → m < 2 ^ 128 → n < 2 ^ 128 → decimal m ≡ decimal n → m ≡ n
same_number m n m_fits n_fits e =
    let a : m < 10 ^ 64 = omega arith in let b : n < 10 ^ 64 = omega arith in
    sym (decimal_is_IsNumeral_wide m a).1 ∙ ap (digits_value 10) e ∙ (decimal_is_IsNumeral_wide n b).1
