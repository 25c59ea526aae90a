-- What is written of arguments that are refused.
use Rattle.std.specs.Prelude.{◌≡◌, ◌||◌, ◌++◌, ℕ, nat_eq, cond, List, codes, flat_map, encode_utf8, string_bytes}
use Rattle.lc_glob.specs.Bytes.{backslash}
use Rattle.lc_text.specs.Visible.{visible_bytes}
use Rattle.lc_arguments.specs.declared.request.ParseExit.{ParseExit, TheVariants.{Shown, Refused, Memory}}

-- a character of a message: line feeds and backslashes as they are, any other as a terminal shows it
abbrev pub message_char : ℕ → List ℕ
message_char c = cond (nat_eq c 10 || nat_eq c backslash) (encode_utf8 c) (visible_bytes (encode_utf8 c))

-- a message: `error: ` and a text, in which nothing moves a terminal's cursor or turns the direction of text
abbrev pub IsMessage : List ℕ → Type 0
IsMessage bytes = (text : List ℕ) × (bytes ≡ codes "error: " ++ flat_map message_char text)

-- the text that refuses arguments is a message
abbrev pub IsRefusedVisibly : ParseExit → Type 0
IsRefusedVisibly (Shown _) = Unit {0}
IsRefusedVisibly (Refused why) = IsMessage (string_bytes why)
IsRefusedVisibly Memory = Unit {0}
