-- Digits and commas, one digit more at a time.
use Rattle.std.proofs.Common.{◌≡◌, ℕ, zero, suc, ◌<◌, List, ◌∷◌, ◌++◌, IsAscii, encode_utf8, ◌∙◌, append_assoc, subst}
use Rattle.std.proofs.lemmas.Str.{encode_ascii}
use Rattle.lc_formats.specs.CellWords.{comma, with_commas}

-- the first digit with what follows it
pub digit_pushed : (initial text pushed more all rest others : List ℕ) (digit : ℕ) → rest ≡ digit ∷ others → IsAscii rest
    → text ++ with_commas rest ≡ initial ++ with_commas all → pushed ≡ text ++ encode_utf8 digit → more ≡ pushed ++ comma others
    → (more ++ with_commas others ≡ initial ++ with_commas all) × IsAscii others
digit_pushed initial text pushed more all rest others digit is ascii so_far first second =
    let all_ascii : IsAscii (digit ∷ others) = subst (λ (l : List ℕ). IsAscii l) is ascii in
    let low : digit < 128 = all_ascii zero in
    let joined : more ++ with_commas others ≡ text ++ with_commas rest =
    rw (second, first, encode_ascii digit low, is) (simp append_assoc) in
    (joined ∙ so_far, λ i. all_ascii (suc i))
