-- The states of attributes that were printed, as they are read.
use Rattle.std.proofs.{lemmas.{Grind.common_steps, Bool.false_from_ne_true, List.{Elements.recursion_from_All, append_cancel_right}}}
use Rattle.std.proofs.{lemmas.{Option.unwrap_or-slice_get, Slice.Eq.bytes_eq-Decides}, Common.{◌≡◌, ◌≢◌, ◌∙◌, ◌+◌, ◌<◌, ◌⊎◌, inl, inr, ℕ}}
use Rattle.std.proofs.Common.{suc, Bool, true, false, ◌||◌, List, [], ◌∷◌, ◌++◌, codes, get_or, unwrap_or, refl, sym, ap, ap₂, subst}
use Rattle.std.proofs.Common.{length, map, arith, append-nil, length-append, zero-add}
use Rattle.std.specs.{List.{AllByRecursion, range_with_len, slice_get}, Str.{bytes_eq, is_utf8}}
use Rattle.json.specs.Json.{Json}
use Rattle.lc_formats.specs.{JsonLines.{line_members, value_members}, JsonText.Member}
use Rattle.lc_reading.specs.{Members.values_at, States.{AreBytesOf, HasStates, bytes_name, state_json}}
use Rattle.lc_rows.specs.Kinds.{state_at, state_value}
use Rattle.lc_rules.specs.Attributes.{StateModel}
use Rattle.lc_sheet.specs.{Values.ValueModel, declared.column.Column.Column}
use Rattle.lc_laws.proofs.JsonMembers.{EachByte, list_of_bytes, lists_if, same_bytes, text_of_bytes, texts_if, values_append}
use Rattle.lc_laws.proofs.PrintedMembers.{is_name, value_apart}
use Rattle.lc_laws.specs.{ReadBack.{AreApart, AreTwo}, SheetReadable.HasByteValue}
use Rattle.lc_rules.specs.Attributes as state
use Rattle.lc_sheet.specs.declared.column.Column.TheVariants as column
use Rattle.lc_sheet.specs.declared.key.Key.TheVariants as key

-- ---- one state

-- what is printed of a state under the name of its attribute, and under that of a list
abbrev state_texts : StateModel → List Json
state_texts (state.value bytes) = texts_if (is_utf8 bytes) bytes
state_texts other = state_json other ∷ []

abbrev state_lists : StateModel → List Json
state_lists (state.value bytes) = lists_if (is_utf8 bytes) bytes
state_lists other = []

-- the state that is read of what is under both names
abbrev ReadsState : List Json → List Json → StateModel → Type 0
ReadsState texts lists s = ((texts ≡ state_json s ∷ []) × (lists ≡ [])) ⊎ ((texts ≡ []) × AreBytesOf lists s)

same_json : (s t : StateModel) → state_json s ∷ [] ≡ state_json t ∷ [] → t ≡ s
same_json s t e = grind (arith, common_steps)

plain_read : (s t : StateModel) → ReadsState (state_json s ∷ []) [] t → t ≡ s
plain_read s t is = grind (arith, common_steps, same_json)

value_read : (b : Bool) (bytes : List ℕ) (t : StateModel) → EachByte bytes → HasByteValue t
    → ReadsState (texts_if b bytes) (lists_if b bytes) t → t ≡ state.value bytes
value_read true bytes t small fits (inl (text, none)) = same_json (state.value bytes) t text
value_read true bytes t small fits (inr (none, list)) = absurd (cc none)
value_read false bytes t small fits (inl (text, none)) = absurd (cc text)
value_read false bytes (state.value more) small fits (inr (none, list)) =
    ap state.value (same_bytes false bytes more small (recursion_from_All (λ b. b < 256) more fits) (inr (none, list)))
value_read false bytes t small fits (inr (none, list)) = absurd list

state_read : (s t : StateModel) → HasByteValue s → HasByteValue t → ReadsState (state_texts s) (state_lists s) t → t ≡ s
state_read s t s_fits t_fits is = grind (arith, common_steps, value_read, recursion_from_All, plain_read)

-- ---- names

differ : (m n : List ℕ) → m ≢ n → bytes_eq m n ≡ false
differ m n apart = false_from_ne_true _ (λ e. apart ((bytes_eq-Decides m n).0 e))

neither : (n w : List ℕ) → w ≢ n → bytes_name w ≢ n → is_name n w ≡ false
neither n w own listed = ap₂ (λ a b. a || b) (differ w n own) (differ (bytes_name w) n listed)

lists_apart : (m n : List ℕ) → m ≢ n → bytes_name m ≢ bytes_name n
lists_apart m n apart e = apart (append_cancel_right m n (codes "_bytes") e)

-- of two attributes, neither has a member of a name of the other
module _ (m n : List ℕ) (two : AreTwo m n) where
  first_named : is_name m n ≡ false
  first_named = neither m n (λ e. two.names (sym e)) two.second

  first_listed : is_name (bytes_name m) n ≡ false
  first_listed = neither (bytes_name m) n (λ e. two.first (sym e)) (λ e. lists_apart m n two.names (sym e))

  second_named : is_name n m ≡ false
  second_named = neither n m two.names two.first

  second_listed : is_name (bytes_name n) m ≡ false
  second_listed = neither (bytes_name n) m (λ e. two.second (sym e)) (lists_apart m n two.names)

-- ---- the members of states

abbrev pub state_members : List (List ℕ) → List StateModel → List Member
state_members [] ss = []
state_members (n ∷ ns) [] = []
state_members (n ∷ ns) (s ∷ ss) = value_members n (state_value s) ++ state_members ns ss

-- there is none under a name that no attribute has
pub states_apart : (n : List ℕ) (ns : List (List ℕ)) (ss : List StateModel) → AllByRecursion (λ m. is_name n m ≡ false) ns
    → values_at n (state_members ns ss) ≡ []
states_apart n [] ss apart = refl
states_apart n (m ∷ ns) [] apart = refl
states_apart n (m ∷ ns) (s ∷ ss) apart = grind (arith, common_steps, values_append, value_apart, states_apart n ns ss apart.1)

-- what the member of a state has under its names
own_text : (n : List ℕ) (s : StateModel) → values_at n (value_members n (state_value s)) ≡ state_texts s
own_text n s = grind (arith, common_steps, text_of_bytes, bytes_eq-Decides, differ, length-append, texts_if, append-nil)

own_list : (n : List ℕ) (s : StateModel) → values_at (bytes_name n) (value_members n (state_value s)) ≡ state_lists s
own_list n s = grind (arith, common_steps, list_of_bytes, bytes_eq-Decides, differ, length-append, lists_if, append-nil)

-- ---- all states

-- under the names of attributes there is what these members have
abbrev pub AreUnder : List Member → List Member → List (List ℕ) → Type 0
AreUnder ms own ns =
    AllByRecursion (λ n. (values_at n ms ≡ values_at n own) × (values_at (bytes_name n) ms ≡ values_at (bytes_name n) own)) ns

without_first : (k n : List ℕ) (s : StateModel) (rest : List Member) → is_name k n ≡ false
    → values_at k (value_members n (state_value s) ++ rest) ≡ values_at k rest
without_first k n s rest apart = grind (arith, common_steps, values_append, value_apart)

others_under : (ms : List Member) (n : List ℕ) (s : StateModel) (rest : List Member) (ns : List (List ℕ))
    → AllByRecursion (AreTwo n) ns → AreUnder ms (value_members n (state_value s) ++ rest) ns → AreUnder ms rest ns
others_under ms n s rest [] two under = tt
others_under ms n s rest (m ∷ ns) two under =
    grind (arith, common_steps, without_first, second_named, second_listed, others_under ms n s rest ns two.1 under.1)

firsts_apart : (n k : List ℕ) → ((m : List ℕ) → AreTwo n m → is_name k m ≡ false) → (ns : List (List ℕ))
    → AllByRecursion (AreTwo n) ns → AllByRecursion (λ m. is_name k m ≡ false) ns
firsts_apart n k each [] two = tt
firsts_apart n k each (m ∷ ns) two = (each m two.0, firsts_apart n k each ns two.1)

-- what is under a name that no other attribute has
first_under : (k n : List ℕ) (s : StateModel) (ns : List (List ℕ)) (ss : List StateModel) → AllByRecursion (λ m. is_name k m ≡ false) ns
    → values_at k (value_members n (state_value s) ++ state_members ns ss) ≡ values_at k (value_members n (state_value s))
first_under k n s ns ss apart = grind (arith, common_steps, values_append, states_apart, append-nil)

-- the states that are read of members that have these states are these
pub states_read : (ms : List Member) (ns : List (List ℕ)) (ss ts : List StateModel) → AreApart ns → AreUnder ms (state_members ns ss) ns
    → length ss ≡ length ns → AllByRecursion HasByteValue ss → AllByRecursion HasByteValue ts → HasStates ms ns ts → ts ≡ ss
states_read ms [] [] [] apart under long s_fits t_fits has = refl
states_read ms [] [] (t ∷ ts) apart under long s_fits t_fits has = absurd has
states_read ms (n ∷ ns) (s ∷ ss) [] apart under long s_fits t_fits has = absurd has
states_read ms (n ∷ ns) (s ∷ ss) (t ∷ ts) apart under long s_fits t_fits has =
    let text : values_at n ms ≡ state_texts s =
    under.0.0 ∙ first_under n n s ns ss (firsts_apart n n (first_named n) ns apart.1) ∙ own_text n s in
    let list : values_at (bytes_name n) ms ≡ state_lists s =
    under.0.1 ∙ first_under (bytes_name n) n s ns ss (firsts_apart n (bytes_name n) (first_listed n) ns apart.1) ∙ own_list n s in
    let first : t ≡ s =
    state_read s t s_fits.0 t_fits.0
    (subst (λ (js : List Json). ReadsState (state_texts s) js t) list (subst (λ (js : List Json). ReadsState js (values_at
    (bytes_name n) ms) t) text has.0)) in
    let others : ts ≡ ss =
    states_read ms ns ss ts apart.2 (others_under ms n s (state_members ns ss) ns apart.1 under.1) (omega arith) s_fits.1 t_fits.1 has.1 in
    λ i. first i ∷ others i
states_read ms ns ss ts apart under long s_fits t_fits has = absurd (omega arith)

-- ---- the columns of states

abbrev pub place_columns : ℕ → ℕ → List Column
place_columns k n = map (λ place. column.Key (key.Attribute place)) (range_with_len k n)

module _ (attributes : List (List ℕ)) (asked : List StateModel) (value : Column → ValueModel)
    (values : (p : ℕ) → value (column.Key (key.Attribute p)) ≡ state_value (state_at asked p)) where
  -- the members of the columns from one on are those of the states from there on
  places_from : (k : ℕ) (ns : List (List ℕ)) (ss : List StateModel) → length ss ≡ length ns
      → ((i : ℕ) → get_or attributes (k + i) [] ≡ get_or ns i [])
      → ((i : ℕ) → get_or asked (k + i) state.unspecified ≡ get_or ss i state.unspecified)
      → line_members attributes (place_columns k (length ns)) (map value (place_columns k (length ns))) ≡ state_members ns ss
  places_from k [] ss long names states = refl
  places_from k (n ∷ ns) [] long names states = absurd (omega arith)
  places_from k (n ∷ ns) (s ∷ ss) long names states =
      let here : k ≡ k + 0 = omega arith in
      let name : unwrap_or (slice_get attributes k) [] ≡ n =
      unwrap_or-slice_get attributes k [] ∙ ap (λ j. get_or attributes j []) here ∙ names 0 in
      let own : state_at asked k ≡ s =
      unwrap_or-slice_get asked k state.unspecified ∙ ap (λ j. get_or asked j state.unspecified) here ∙ states 0 in
      ap₂ (λ (a b : List Member). a ++ b) (ap₂ value_members name (values k ∙ ap state_value own))
      (places_from (k + 1) ns ss (omega arith)
      (λ i. let next : k + 1 + i ≡ k + suc i = omega arith in ap (λ j. get_or attributes j []) next ∙ names (suc i))
      (λ i. let next : k + 1 + i ≡ k + suc i = omega arith in ap (λ j. get_or asked j state.unspecified) next ∙ states (suc i)))

  pub all_places : length asked ≡ length attributes
      → line_members attributes (place_columns 0 (length attributes)) (map value (place_columns 0 (length attributes)))
      ≡ state_members attributes asked
  all_places long = grind (arith, common_steps, places_from, zero-add)
