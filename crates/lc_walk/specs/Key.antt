-- Keys of the tally, and their order.
use Rattle.std.specs.{Prelude.{ℕ, List, Option, Bool}, declared.cmp.Ordering.Ordering, Ordering.{nat_cmp, on, then_cmp, eq_by_cmp}}
use Rattle.std.specs.{Option.option_cmp, Cmp.Lexicographic.slice_cmp}
use Rattle.lc_census.specs.declared.line_count.Eol.{Eol, TheVariants.{NoEnd, Lf, CrLf, Cr, Mixed, Nul}}
use Rattle.lc_rules.specs.declared.states.TextState.{TextState, TheVariants.{Set, Unset, Auto, Other, Unspecified}}

-- what the files of one row of a tally have in common
pub record Key : Type 0 where
  pub extension : Option (List ℕ)
  pub text : TextState
  pub eol : Eol

-- the order of the text states
abbrev pub text_place : TextState → ℕ
text_place Set = 0
text_place Unset = 1
text_place Auto = 2
text_place Other = 3
text_place Unspecified = 4

-- the order of the classes of line ends
abbrev pub eol_place : Eol → ℕ
eol_place NoEnd = 0
eol_place Lf = 1
eol_place CrLf = 2
eol_place Cr = 3
eol_place Mixed = 4
eol_place Nul = 5

-- compares keys by extension: no extension comes first, then extensions by their bytes
abbrev pub by_extension : Key → Key → Ordering
by_extension = on (λ (k : Key). k.extension) (option_cmp (slice_cmp nat_cmp))

-- compares keys by text state
abbrev pub by_text : Key → Key → Ordering
by_text = on (λ (k : Key). text_place k.text) nat_cmp

-- compares keys by class of line ends
abbrev pub by_eol : Key → Key → Ordering
by_eol = on (λ (k : Key). eol_place k.eol) nat_cmp

-- the order of keys: by extension, then by text state, then by class of line ends
unfoldable pub key_cmp : Key → Key → Ordering
key_cmp = then_cmp by_extension (then_cmp by_text by_eol)

-- whether two keys are the same
abbrev pub same_key : Key → Key → Bool
same_key = eq_by_cmp key_cmp
