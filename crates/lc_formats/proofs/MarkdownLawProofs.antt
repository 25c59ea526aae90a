-- What is true of texts as Markdown.
use Rattle.std.proofs.{Common.{arith, ◌≡◌, ◌==◌, ◌||◌, ◌&&◌, ℕ, nat_eq, Bool, true, false, if◌then◌else◌, List, [], ◌∷◌, ◌++◌, codes, refl}}
use Rattle.std.proofs.{Common.{ap, ◌∙◌, flat_map}, lemmas.{Grind.common_steps, Bool.{and_parts, eqb-true, ne_eqb, or_parts}}}
use Rattle.std.specs.{List.{list_any, starts_with}}
use Rattle.lc_glob.specs.Lists.{is_empty}
use Rattle.lc_formats.specs.{Blanks.ends_in_blank, MarkdownCells.{begins_address, break_in, cell_byte, is_markup, markdown, markdown_from}}
use Rattle.lc_formats.specs.{MarkdownLaws.{BlankLaw, EscapedLaw, LinkLaw, UnescapedLaw, Sight, plain, escaped, numbered, tag, in_text}}
use Rattle.lc_formats.specs.{MarkdownLaws.{seen, bytes_of, is_bare_markup, text_to_tag, begins_link, has_link}}

clash : {Q : Type 0} → true ≡ false → Q
clash e = absurd (cc)

-- ---- what is seen of a text, byte by byte

abbrev sight : Bool → ℕ → Sight
sight at_end b = if is_markup b then escaped b else if at_end && b == 32 then numbered 32 else plain b

abbrev breaks : List ℕ → List Sight
breaks t = if begins_address t then tag ∷ [] else []

abbrev sights_from : Bool → List ℕ → List Sight
sights_from first [] = []
sights_from first (b ∷ bs) = sight (first || is_empty bs) b ∷ (breaks (b ∷ bs) ++ sights_from false bs)

-- what begins an escape, a tag or a number is markup
unmarked : (b m : ℕ) → is_markup m ≡ true → is_markup b ≡ false → (b == m) ≡ false
unmarked b m marked e = ne_eqb b m (λ same. let t : is_markup b ≡ true = ap is_markup same ∙ marked in absurd (cc))

byte_seen : (b : ℕ) (m blank : Bool) → is_markup b ≡ m → (rest : List ℕ)
    → seen in_text ((if m then 92 ∷ b ∷ [] else if blank then codes "&#32;" else b ∷ []) ++ rest)
    ≡ (if m then escaped b else if blank then numbered 32 else plain b) ∷ seen in_text rest
byte_seen b m blank e rest = grind (arith, common_steps, unmarked)

break_seen : (broken : Bool) (rest : List ℕ)
    → seen in_text ((if broken then codes "<wbr>" else []) ++ rest) ≡ (if broken then tag ∷ [] else []) ++ seen in_text rest
break_seen broken rest = grind (arith, common_steps)

all_seen : (first : Bool) (text : List ℕ) → seen in_text (markdown_from first text) ≡ sights_from first text
all_seen first [] = refl
all_seen first (b ∷ bs) = grind (arith, common_steps, byte_seen, break_seen, all_seen false bs)

-- ---- reading back

byte_read : (b : ℕ) (m at_end : Bool) (rest : List Sight) (text : List ℕ) → flat_map bytes_of rest ≡ text
    → (blank : Bool) → (b == 32) ≡ blank
    → flat_map bytes_of ((if m then escaped b else if at_end && blank then numbered 32 else plain b) ∷ rest) ≡ b ∷ text
byte_read b m at_end rest text e blank is = grind (arith, common_steps, eqb-true)

break_read : (broken : Bool) (rest : List Sight)
    → flat_map bytes_of ((if broken then tag ∷ [] else []) ++ rest) ≡ flat_map bytes_of rest
break_read broken rest = grind (arith, common_steps)

all_read : (first : Bool) (text : List ℕ) → flat_map bytes_of (sights_from first text) ≡ text
all_read first [] = refl
all_read first (b ∷ bs) = grind (arith, common_steps, byte_read, break_read, all_read false bs)

pub unescaped_law : UnescapedLaw
unescaped_law text = ap (λ (ss : List Sight). flat_map bytes_of ss) (all_seen true text) ∙ all_read true text

-- ---- markup

byte_bare : (b : ℕ) (m blank : Bool) → is_markup b ≡ m
    → is_bare_markup (if m then escaped b else if blank then numbered 32 else plain b) ≡ false
byte_bare b m blank e = grind (arith, common_steps)

break_bare : (broken : Bool) (rest : List Sight)
    → list_any is_bare_markup ((if broken then tag ∷ [] else []) ++ rest) ≡ list_any is_bare_markup rest
break_bare broken rest = grind (arith, common_steps)

none_bare : (first : Bool) (text : List ℕ) → list_any is_bare_markup (sights_from first text) ≡ false
none_bare first [] = refl
none_bare first (b ∷ bs) = grind (arith, common_steps, byte_bare, break_bare, none_bare false bs)

pub escaped_law : EscapedLaw
escaped_law text = ap (list_any is_bare_markup) (all_seen true text) ∙ none_bare true text

-- ---- addresses

-- a text that begins so does with more behind it
starts_more : (mark text rest : List ℕ) → starts_with nat_eq text mark ≡ true → starts_with nat_eq (text ++ rest) mark ≡ true
starts_more mark text rest e = grind (arith, common_steps, and_parts)

starts_less : (mark text rest : List ℕ) → starts_with nat_eq (text ++ rest) mark ≡ false → starts_with nat_eq text mark ≡ false
starts_less mark text rest e = grind (arith, common_steps, clash, starts_more)

byte_text : (b : ℕ) (m at_end blank : Bool) → (b == 32) ≡ blank → (ss : List Sight)
    → text_to_tag ((if m then escaped b else if at_end && blank then numbered 32 else plain b) ∷ ss) ≡ b ∷ text_to_tag ss
byte_text b m at_end blank is ss = grind (arith, common_steps, eqb-true)

break_text : (broken : Bool) (ss : List Sight)
    → text_to_tag ((if broken then tag ∷ [] else []) ++ ss) ≡ (if broken then [] else text_to_tag ss)
break_text broken ss = grind (arith, common_steps)

text_here : (first : Bool) (b : ℕ) (bs : List ℕ)
    → text_to_tag (sights_from first (b ∷ bs)) ≡ b ∷ (if begins_address (b ∷ bs) then [] else text_to_tag (sights_from false bs))
text_here first b bs = grind (arith, common_steps, byte_text, break_text)

-- up to the next tag is a front of the text
front_of : (first : Bool) (text : List ℕ) → (rest : List ℕ) × (text_to_tag (sights_from first text) ++ rest ≡ text)
front_of first [] = ([], refl)
front_of first (b ∷ bs) =
    let found = up_to (begins_address (b ∷ bs)) (front_of false bs) in
    (found.0, ap (λ (l : List ℕ). l ++ found.0) (text_here first b bs) ∙ ap (λ (l : List ℕ). b ∷ l) found.1)
  where
    up_to : (broken : Bool) → ((rest : List ℕ) × (text_to_tag (sights_from false bs) ++ rest ≡ bs))
        → (rest : List ℕ) × ((if broken then [] else text_to_tag (sights_from false bs)) ++ rest ≡ bs)
    up_to true more = (bs, refl)
    up_to false more = more

one_byte : (x : Bool) → (x && false) ≡ false
one_byte x = grind (arith, common_steps)

-- one byte is no link, nor is what begins no address
no_link_here : (b : ℕ) (bs front rest : List ℕ) → front ++ rest ≡ bs → (broken : Bool) → begins_address (b ∷ bs) ≡ broken
    → begins_link (b ∷ (if broken then [] else front)) ≡ false
no_link_here b bs front rest e broken is = grind (arith, common_steps, one_byte, or_parts, starts_less, ne_eqb, clash)

break_links : (broken : Bool) (ss : List Sight) → has_link ((if broken then tag ∷ [] else []) ++ ss) ≡ has_link ss
break_links broken ss = grind (arith, common_steps)

no_links : (first : Bool) (text : List ℕ) → has_link (sights_from first text) ≡ false
no_links first [] = refl
no_links first (b ∷ bs) =
    let front = front_of false bs in
    ap (λ (l : List ℕ). begins_link l || has_link (breaks (b ∷ bs) ++ sights_from false bs)) (text_here first b bs)
    ∙ ap (λ (x : Bool). x || has_link (breaks (b ∷ bs) ++ sights_from false bs))
    (no_link_here b bs (text_to_tag (sights_from false bs)) front.0 front.1 (begins_address (b ∷ bs)) refl)
    ∙ break_links (begins_address (b ∷ bs)) (sights_from false bs) ∙ no_links false bs

pub link_law : LinkLaw
link_law text = ap has_link (all_seen true text) ∙ no_links true text

-- ---- blanks

byte_begins : (b : ℕ) (m blank : Bool) → (b == 32) ≡ blank → (rest : List ℕ)
    → starts_with nat_eq ((if m then 92 ∷ b ∷ [] else if blank then codes "&#32;" else b ∷ []) ++ rest) (codes " ") ≡ false
byte_begins b m blank is rest = grind (arith, common_steps, ne_eqb, clash)

begins_unblank : (text : List ℕ) → starts_with nat_eq (markdown text) (codes " ") ≡ false
begins_unblank [] = refl
begins_unblank (b ∷ bs) = byte_begins b (is_markup b) (b == 32) refl (break_in (b ∷ bs) ++ markdown_from false bs)

not_empty : (at_end : Bool) (b : ℕ) (rest : List ℕ) → is_empty (cell_byte at_end b ++ rest) ≡ false
not_empty at_end b rest = grind (arith, common_steps)

ends_behind : (xs ys : List ℕ) → is_empty ys ≡ false → ends_in_blank ys ≡ false → ends_in_blank (xs ++ ys) ≡ false
ends_behind [] ys some e = e
ends_behind (x ∷ []) [] some e = clash some
ends_behind (x ∷ []) (y ∷ ys) some e = e
ends_behind (x ∷ z ∷ zs) ys some e = ends_behind (z ∷ zs) ys some e

last_byte : (b : ℕ) (m blank broken : Bool) → is_markup b ≡ m → (b == 32) ≡ blank
    → ends_in_blank ((if m then 92 ∷ b ∷ [] else if blank then codes "&#32;" else b ∷ [])
    ++ ((if broken then codes "<wbr>" else []) ++ [])) ≡ false
last_byte b m blank broken marked is = grind (arith, common_steps, ne_eqb, clash)

or_last : (x y : Bool) → ((x || true) && y) ≡ y
or_last x y = grind (arith, common_steps)

ends_unblank : (first : Bool) (text : List ℕ) → ends_in_blank (markdown_from first text) ≡ false
ends_unblank first [] = refl
ends_unblank first (b ∷ []) =
    ap (λ (blank : Bool). ends_in_blank ((if is_markup b then 92 ∷ b ∷ [] else if blank then codes "&#32;" else b ∷ [])
    ++ (break_in (b ∷ []) ++ []))) (or_last first (b == 32))
    ∙ last_byte b (is_markup b) (b == 32) (begins_address (b ∷ [])) refl refl
ends_unblank first (b ∷ c ∷ cs) =
    let rest = markdown_from false (c ∷ cs) in
    let some : is_empty rest ≡ false = not_empty (false || is_empty cs) c (break_in (c ∷ cs) ++ markdown_from false cs) in
    behind_break (begins_address (b ∷ c ∷ cs)) rest some (ends_unblank false (c ∷ cs))
  where
    behind_break : (broken : Bool) (rest : List ℕ) → is_empty rest ≡ false → ends_in_blank rest ≡ false
        → ends_in_blank (cell_byte (first || false) b ++ ((if broken then codes "<wbr>" else []) ++ rest)) ≡ false
    behind_break true rest some e =
        ends_behind (cell_byte (first || false) b) (codes "<wbr>" ++ rest) refl (ends_behind (codes "<wbr>") rest some e)
    behind_break false rest some e = ends_behind (cell_byte (first || false) b) rest some e

pub blank_law : BlankLaw
blank_law text = (begins_unblank text, ends_unblank true text)
