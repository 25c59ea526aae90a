-- The order of keys.
use Rattle.std.proofs.{Common.{arith, ◌≡◌, ℕ, ◌==◌, true, cond, ap}, lemmas.Grind.common_steps}
use Rattle.std.proofs.lemmas.Cmp.{nat_cmp_total, nat_list_cmp_total, on_total, then_total, alike_right}
use Rattle.std.proofs.lemmas.Map.Lookups.{CmpEqualImpliesEq, exact_bytes, exact_unsigned}
use Rattle.std.specs.{Cmp.{IsTotalOrder, Lexicographic.options_total}, Option.option_cmp, Ordering.{is_eq, ordering_then}}
use Rattle.std.specs.declared.cmp.Ordering.{Ordering, TheVariants.Equal}
use Rattle.lc_census.specs.declared.line_count.Eol.{Eol, TheVariants.{NoEnd, Lf, CrLf, Cr, Mixed, Nul}}
use Rattle.lc_walk.specs.Key.{Key, key_cmp, same_key, text_place, eol_place}

-- keys are in a total order
pub key_cmp_total : IsTotalOrder key_cmp
unfolding key_cmp
key_cmp_total = then_total (on_total (λ (k : Key). k.extension) (options_total nat_list_cmp_total))
    (then_total (on_total (λ (k : Key). text_place k.text) nat_cmp_total) (on_total (λ (k : Key). eol_place k.eol) nat_cmp_total))

-- two keys that tie are the same to every test
pub same_to_all : (a b k : Key) → key_cmp a b ≡ Equal → same_key k a ≡ same_key k b
same_to_all a b k e = ap is_eq (alike_right key_cmp_total a b k e)

-- keys that are the same tie
pub equal_if : (o : Ordering) → is_eq o ≡ true → o ≡ Equal
equal_if o e = grind (arith, common_steps)

-- where one order and then another tie, both do
pub first_ties : (o p : Ordering) → ordering_then o p ≡ Equal → o ≡ Equal
first_ties o p e = grind (arith, common_steps)

pub then_ties : (o p : Ordering) → ordering_then o p ≡ Equal → p ≡ Equal
then_ties o p e = grind (arith, common_steps)

pub exact_options : {K : Type 0} {R : K → K → Ordering} → CmpEqualImpliesEq R → CmpEqualImpliesEq (option_cmp R)
exact_options exact = grind (arith, common_steps)

eol_at : ℕ → Eol
eol_at n = cond (n == 0) NoEnd (cond (n == 1) Lf (cond (n == 2) CrLf (cond (n == 3) Cr (cond (n == 4) Mixed Nul))))

-- keys of a tally that tie are the same
pub exact_keys : CmpEqualImpliesEq key_cmp
unfolding key_cmp
exact_keys = grind (arith, common_steps, exact_options, exact_bytes, first_ties, exact_unsigned, then_ties, eol_at)
