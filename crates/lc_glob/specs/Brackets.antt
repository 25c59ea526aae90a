-- What stands between brackets: gitignore(5), PATTERN FORMAT, where the manual leaves the items to fnmatch(3).
use Rattle.std.specs.Prelude.{ℕ, zero, suc, ◌+◌, ◌-◌, Bool, true, false, not, ◌&&◌, ◌||◌, ◌==◌, nat_lt, if◌then◌else◌, max, List, [], ◌∷◌}
use Rattle.std.specs.{Prelude.{◌++◌, length, take, drop, slice_index, Option, Some, None, codes, bytes_eq}, List.position_or_len}
use Rattle.lc_glob.specs.{Bytes.{backslash, opening, closing, exclamation_mark, caret, hyphen, colon}, Tokens.{TokenModel, class}}

-- the ranges of a class if it has the name, and otherwise what the other classes give
abbrev pub named : Bool → List (ℕ × ℕ) → Option (List (ℕ × ℕ)) → Option (List (ℕ × ℕ))
named true ranges others = Some ranges
named false ranges others = others

-- ranges by their ends, two by two
abbrev pub spans : List ℕ → List (ℕ × ℕ)
spans [] = []
spans (a ∷ []) = []
spans (a ∷ b ∷ ends) = (a, b) ∷ spans ends

-- the bytes of a class with more than letters and digits, in ASCII; 9 is the tab, and 9 to 13 are the tab, the line's ends
-- and what stands between them
abbrev pub other_class_of : List ℕ → Option (List (ℕ × ℕ))
other_class_of name =
    named (bytes_eq name (codes "blank")) (spans (codes "  ") ++ (9, 9) ∷ [])
    (named (bytes_eq name (codes "space")) (spans (codes "  ") ++ (9, 13) ∷ [])
    (named (bytes_eq name (codes "cntrl")) ((0, 31) ∷ (127, 127) ∷ [])
    (named (bytes_eq name (codes "graph")) (spans (codes "!~"))
    (named (bytes_eq name (codes "print")) (spans (codes " ~"))
    (named (bytes_eq name (codes "punct")) (spans (codes "!/:@[`{~"))
    None)))))

-- the bytes of a class, in ASCII
abbrev pub class_of : List ℕ → Option (List (ℕ × ℕ))
class_of name =
    named (bytes_eq name (codes "alpha")) (spans (codes "AZaz"))
    (named (bytes_eq name (codes "lower")) (spans (codes "az"))
    (named (bytes_eq name (codes "upper")) (spans (codes "AZ"))
    (named (bytes_eq name (codes "digit")) (spans (codes "09"))
    (named (bytes_eq name (codes "xdigit")) (spans (codes "09AFaf"))
    (named (bytes_eq name (codes "alnum")) (spans (codes "09AZaz"))
    (other_class_of name))))))

-- the element that begins with the byte b, and how many of the bytes after b it takes: a byte, or one that is quoted
abbrev pub element : ℕ → List ℕ → Option (ℕ × ℕ)
element b [] = if b == backslash then None else Some (b, 0)
element b (c ∷ cs) = if b == backslash then Some (c, 1) else Some (b, 0)

-- the range from x to an element after k bytes and the hyphen; only x where that element is below x
abbrev pub range_to : ℕ → ℕ → Option (ℕ × ℕ) → Option (List (ℕ × ℕ) × ℕ)
range_to x k None = None
range_to x k (Some y) = Some ((x, max x y.0) ∷ [], k + 2 + y.1)

-- the range from the element x, or x alone if no range follows, and how many bytes it takes: k for x, and those of the range
abbrev pub range_from : ℕ → ℕ → List ℕ → Option (List (ℕ × ℕ) × ℕ)
range_from x k [] = Some ((x, x) ∷ [], k)
range_from x k (d ∷ []) = Some ((x, x) ∷ [], k)
range_from x k (d ∷ c ∷ cs) =
    if d == hyphen && not (c == closing) then range_to x k (element c cs) else Some ((x, x) ∷ [], k)

-- the range from an element that was found, or the element alone if no range follows
abbrev pub from_element : Option (ℕ × ℕ) → List ℕ → Option (List (ℕ × ℕ) × ℕ)
from_element None bs = None
from_element (Some x) bs = range_from x.0 x.1 (drop x.1 bs)

-- a class that was found, and how many bytes it takes
abbrev pub class_item : ℕ → Option (List (ℕ × ℕ)) → Option (List (ℕ × ℕ) × ℕ)
class_item taken None = None
class_item taken (Some ranges) = Some (ranges, taken)

-- an item that is an element or a range
abbrev pub plain_item : ℕ → List ℕ → Option (List (ℕ × ℕ) × ℕ)
plain_item b bs = from_element (element b bs) bs

-- whether a class ends at the close at p: the byte before it is a colon, and not the one that began the class
abbrev pub is_class : List ℕ → ℕ → Bool
is_class rest p = nat_lt 0 p && (slice_index rest (p - 1) == colon)

-- an item that begins with `[:`, where the first close after these stands at p of the rest; a `plain` one where no
-- class ends there
abbrev pub colon_item : ℕ → List ℕ → Option (List (ℕ × ℕ) × ℕ) → Option (List (ℕ × ℕ) × ℕ)
colon_item p rest plain =
    if nat_lt p (length rest)
    then (if is_class rest p then class_item (p + 2) (class_of (take (p - 1) rest)) else plain)
    else None

-- the place of the first close, or the length where there is none
abbrev pub first_close : List ℕ → ℕ
first_close bytes = position_or_len (λ d. d == closing) bytes

-- an item that begins with `[:`, by the bytes after the `[` and those after the `:`
abbrev pub colon_of : List ℕ → List ℕ → Option (List (ℕ × ℕ) × ℕ)
colon_of after_bracket after_colon = colon_item (first_close after_colon) after_colon (plain_item opening after_bracket)

-- the ranges of an item that begins with the byte b, and how many of the bytes after b it takes
abbrev pub item : ℕ → List ℕ → Option (List (ℕ × ℕ) × ℕ)
item b [] = plain_item b []
item b (c ∷ cs) =
    if b == opening && (c == colon)
    then colon_item (first_close cs) cs (plain_item b (c ∷ cs))
    else plain_item b (c ∷ cs)

-- the ranges of one item before those of the items after it, and one byte more
abbrev pub taken_more : List (ℕ × ℕ) → Option (List (ℕ × ℕ) × ℕ) → Option (List (ℕ × ℕ) × ℕ)
taken_more ranges None = None
taken_more ranges (Some r) = Some (ranges ++ r.0, suc r.1)

-- the ranges at a close, which are none, or those of an item that was found and of the items after it
abbrev pub items_on : Bool → Option (List (ℕ × ℕ) × ℕ) → (ℕ → Option (List (ℕ × ℕ) × ℕ)) → Option (List (ℕ × ℕ) × ℕ)
items_on true found next = Some ([], 1)
items_on false None next = None
items_on false (Some i) next = taken_more i.0 (next i.1)

-- the ranges up to the close, which the first item can't be, with the number of bytes taken, the close too; the first k
-- bytes are passed over
abbrev pub items : Bool → ℕ → List ℕ → Option (List (ℕ × ℕ) × ℕ)
items first k [] = None
items first (suc k) (b ∷ bs) = taken_more [] (items first k bs)
items first zero (b ∷ bs) = items_on (b == closing && not first) (item b bs) (λ k. items false k bs)

-- the token of the ranges that were found, after more bytes
abbrev pub as_set : Bool → ℕ → Option (List (ℕ × ℕ) × ℕ) → Option (TokenModel × ℕ)
as_set negated more None = None
as_set negated more (Some r) = Some (class negated r.0, more + r.1)

-- the set whose bracket opened before these bytes, and how many of them it takes
abbrev pub bracket : List ℕ → Option (TokenModel × ℕ)
bracket [] = None
bracket (b ∷ bs) =
    if b == exclamation_mark || (b == caret) then as_set true 1 (items true 0 bs) else as_set false 0 (items true 0 (b ∷ bs))
