-- What is true of texts as Markdown.
use Rattle.std.specs.Prelude.{◌≡◌, ◌==◌, ◌+◌, ◌-◌, ◌*◌, ◌||◌, ℕ, nat_eq, Bool, false, if◌then◌else◌, List, [], ◌∷◌, codes, flat_map}
use Rattle.std.specs.List.{list_any, starts_with}
use Rattle.lc_formats.specs.{Blanks.ends_in_blank, MarkdownCells.{is_markup, markdown}}

-- what a reader of Markdown sees in a cell: a byte as it is, a byte behind a backslash, a byte that is written by its number, or a tag
pub data Sight : Type 0 where
  plain : ℕ → Sight
  escaped : ℕ → Sight
  numbered : ℕ → Sight
  tag : Sight

-- where a reader is: in text, behind a backslash, in a tag, or in a number whose digits so far make this number
pub data Place : Type 0 where
  in_text : Place
  in_escape : Place
  in_tag : Place
  in_number : ℕ → Place

-- what a reader sees from a place on
abbrev pub seen : Place → List ℕ → List Sight
seen place [] = []
seen in_text (b ∷ bs) =
    if b == 92 then seen in_escape bs
    else if b == 60 then tag ∷ seen in_tag bs
    else if b == 38 then seen (in_number 0) bs else plain b ∷ seen in_text bs
seen in_escape (b ∷ bs) = escaped b ∷ seen in_text bs
seen in_tag (b ∷ bs) = if b == 62 then seen in_text bs else seen in_tag bs
seen (in_number n) (b ∷ bs) =
    if b == 59 then numbered n ∷ seen in_text bs
    else if b == 35 then seen (in_number n) bs else seen (in_number (10 * n + (b - 48))) bs

-- what a reader sees of a text that is written as Markdown
abbrev pub sights : List ℕ → List Sight
sights text = seen in_text (markdown text)

abbrev pub bytes_of : Sight → List ℕ
bytes_of (plain b) = b ∷ []
bytes_of (escaped b) = b ∷ []
bytes_of (numbered b) = b ∷ []
bytes_of tag = []

-- what a reader sees is the text
abbrev pub UnescapedLaw : Type 0
UnescapedLaw = (text : List ℕ) → flat_map bytes_of (sights text) ≡ text

abbrev pub is_bare_markup : Sight → Bool
is_bare_markup (plain b) = is_markup b
is_bare_markup (escaped b) = false
is_bare_markup (numbered b) = false
is_bare_markup tag = false

-- all markup in a text is escaped
abbrev pub EscapedLaw : Type 0
EscapedLaw = (text : List ℕ) → list_any is_bare_markup (sights text) ≡ false

-- the text up to the next tag
abbrev pub text_to_tag : List Sight → List ℕ
text_to_tag [] = []
text_to_tag (plain b ∷ ss) = b ∷ text_to_tag ss
text_to_tag (escaped b ∷ ss) = b ∷ text_to_tag ss
text_to_tag (numbered b ∷ ss) = b ∷ text_to_tag ss
text_to_tag (tag ∷ ss) = []

-- whether a text begins with an `@` that is not its last byte
abbrev pub begins_domain : List ℕ → Bool
begins_domain [] = false
begins_domain (b ∷ []) = false
begins_domain (b ∷ c ∷ cs) = b == 64

-- whether a text begins with what may make a link of the text around it: `www.`, the `://` of a protocol, or the `@` of a mail address
abbrev pub begins_link : List ℕ → Bool
begins_link t = starts_with nat_eq t (codes "www.") || (starts_with nat_eq t (codes "://") || begins_domain t)

abbrev pub has_link : List Sight → Bool
has_link [] = false
has_link (s ∷ ss) = begins_link (text_to_tag (s ∷ ss)) || has_link ss

-- no text between tags has an address
abbrev pub LinkLaw : Type 0
LinkLaw = (text : List ℕ) → has_link (sights text) ≡ false

-- a cell neither begins nor ends with a blank, which would be dropped
abbrev pub BlankLaw : Type 0
BlankLaw = (text : List ℕ) → (starts_with nat_eq (markdown text) (codes " ") ≡ false) × (ends_in_blank (markdown text) ≡ false)
