-- Keys that tie are the same.
use Rattle.std.proofs.{Common.{arith, ◌≡◌, ℕ, List, [], ◌∷◌, ◌==◌, cond, refl, sym, ◌∙◌, ap₂}, lemmas.Grind.common_steps}
use Rattle.std.proofs.lemmas.Cmp.{lists_total, nat_cmp_total, nat_list_cmp_total, on_total, then_total}
use Rattle.std.proofs.lemmas.Map.Lookups.{CmpEqualImpliesEq, exact_bytes, exact_unsigned}
use Rattle.std.specs.{Cmp.{IsTotalOrder, Lexicographic.{options_total, slice_cmp}}, declared.cmp.Ordering.Ordering}
use Rattle.lc_rules.specs.Attributes.{StateModel, set, unset, value, unspecified}
use Rattle.lc_walk.proofs.Keys.{exact_keys, exact_options, first_ties, key_cmp_total, then_ties}
use Rattle.lc_rows.specs.RowKeys.{FileKey, RowKey, file_key_cmp, row_key_cmp, state_bytes, state_cmp, state_place}

-- a state by its place and its bytes
state_of : ℕ → List ℕ → StateModel
state_of n bytes = cond (n == 0) unspecified (cond (n == 1) set (cond (n == 2) unset (value bytes)))

state_back : (s : StateModel) → state_of (state_place s) (state_bytes s) ≡ s
unfolding state_of
state_back s = grind (arith, common_steps, state_of)

exact_states : CmpEqualImpliesEq state_cmp
exact_states a b e =
    let place = exact_unsigned (state_place a) (state_place b) (first_ties _ _ e) in
    let bytes = exact_bytes (state_bytes a) (state_bytes b) (then_ties _ _ e) in
    sym (state_back a) ∙ ap₂ state_of place bytes ∙ state_back b

exact_lists : {X : Type 0} {R : X → X → Ordering} → CmpEqualImpliesEq R → CmpEqualImpliesEq (slice_cmp R)
exact_lists exact [] [] e = refl
exact_lists exact [] (y ∷ ys) e = absurd (cc)
exact_lists exact (x ∷ xs) [] e = absurd (cc)
exact_lists exact (x ∷ xs) (y ∷ ys) e =
    ap₂ (λ z zs. z ∷ zs) (exact x y (first_ties _ _ e)) (exact_lists exact xs ys (then_ties _ _ e))

exact_file_keys : CmpEqualImpliesEq file_key_cmp
unfolding file_key_cmp
exact_file_keys a b e =
    let attributes : a.attributes ≡ b.attributes = exact_lists exact_states _ _ (first_ties _ _ e) in
    let tally : a.tally ≡ b.tally = exact_keys a.tally b.tally (then_ties _ _ e) in
    λ i. record { attributes = attributes i; tally = tally i }

-- keys of rows that tie are the same
pub exact_row_keys : CmpEqualImpliesEq row_key_cmp
unfolding row_key_cmp
exact_row_keys a b e =
    let directory : a.directory ≡ b.directory = exact_options exact_bytes _ _ (first_ties _ _ e) in
    let key : a.key ≡ b.key = exact_file_keys a.key b.key (then_ties _ _ e) in
    λ i. record { directory = directory i; key = key i }

-- they are in a total order, and so are those of files
pub file_key_cmp_total : IsTotalOrder file_key_cmp
unfolding file_key_cmp
file_key_cmp_total = then_total (on_total (λ (k : FileKey). k.attributes) (lists_total (then_total
    (on_total state_place nat_cmp_total) (on_total state_bytes nat_list_cmp_total)))) (on_total (λ (k : FileKey). k.tally) key_cmp_total)

pub row_key_cmp_total : IsTotalOrder row_key_cmp
unfolding row_key_cmp
row_key_cmp_total = then_total (on_total (λ (k : RowKey). k.directory) (options_total nat_list_cmp_total))
    (on_total (λ (k : RowKey). k.key) file_key_cmp_total)
