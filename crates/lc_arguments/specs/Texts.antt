-- Bytes and pieces of the texts of options.
use Rattle.std.specs.{Prelude.{ℕ, cond, List, length, take, drop, Option, Some, None}, Str.bytes_eq}

abbrev pub comma : ℕ
comma = 44

abbrev pub exclamation_mark : ℕ
exclamation_mark = 33

abbrev pub less_sign : ℕ
less_sign = 60

abbrev pub greater_sign : ℕ
greater_sign = 62

-- the rest of a text after `front`, if the text begins with `front`
abbrev pub after_front : List ℕ → List ℕ → Option (List ℕ)
after_front front text = cond (bytes_eq (take (length front) text) front) (Some (drop (length front) text)) None
