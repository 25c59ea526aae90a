-- A quoted pattern: gitattributes(5), DESCRIPTION, on patterns that begin with double quotes.
use Rattle.std.specs.Prelude.{ℕ, zero, suc, ◌+◌, ◌-◌, ◌*◌, Bool, ◌==◌, ◌&&◌, nat_le, if◌then◌else◌, List, [], ◌∷◌, Option, Some, None}
use Rattle.lc_glob.specs.Bytes.{backslash}
use Rattle.lc_rules.specs.Bytes.{quotation_mark}

-- an octal digit that is not above `most`; 48 is `0`
abbrev pub is_octal : ℕ → ℕ → Bool
is_octal most b = nat_le 48 b && nat_le b most

-- the byte of three octal digits, of which the first is `0` to `3`, and their number
abbrev pub octal : List ℕ → Option (ℕ × ℕ)
octal (c ∷ d ∷ e ∷ rest) =
    if is_octal 51 c && is_octal 55 d && is_octal 55 e then Some ((c - 48) * 64 + (d - 48) * 8 + (e - 48), 3) else None
octal bytes = None

-- the byte that an escape stands for, and how many bytes after the backslash it takes: `a`, `b`, `f`, `n`, `r`, `t`,
-- `v`, a backslash, a quotation mark, or three octal digits
abbrev pub escape : List ℕ → Option (ℕ × ℕ)
escape [] = None
escape (c ∷ cs) =
    if c == 97 then Some (7, 1) else if c == 98 then Some (8, 1) else if c == 102 then Some (12, 1)
    else if c == 110 then Some (10, 1) else if c == 114 then Some (13, 1) else if c == 116 then Some (9, 1)
    else if c == 118 then Some (11, 1) else if c == backslash then Some (backslash, 1)
    else if c == quotation_mark then Some (quotation_mark, 1)
    else octal (c ∷ cs)

-- a text with one more byte at its front
abbrev pub put_byte : ℕ → Option (List ℕ × List ℕ) → Option (List ℕ × List ℕ)
put_byte b None = None
put_byte b (Some r) = Some (b ∷ r.0, r.1)

-- the text after an escape, with the byte of the escape at its front
abbrev pub put_escape : Option (ℕ × ℕ) → (ℕ → Option (List ℕ × List ℕ)) → Option (List ℕ × List ℕ)
put_escape None next = None
put_escape (Some e) next = put_byte e.0 (next e.1)

-- the text up to the closing quotation mark, and what follows the mark; the first k bytes are skipped. None if the text isn't closed or has
-- another escape
abbrev pub unquoted : ℕ → List ℕ → Option (List ℕ × List ℕ)
unquoted k [] = None
unquoted (suc k) (b ∷ bs) = unquoted k bs
unquoted zero (b ∷ bs) =
    if b == quotation_mark then Some ([], bs)
    else if b == backslash then put_escape (escape bs) (λ k. unquoted k bs)
    else put_byte b (unquoted 0 bs)
