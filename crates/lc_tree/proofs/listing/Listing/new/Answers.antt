use Rattle.std.proofs.{Common.{sym, subst, List, arith}, lemmas.List.Sorted.length_permutation}
use Rattle.std.specs.{Prelude.IsTrue, List.Sorted.IsStrictlySortedBy}
use Rattle.lc_tree.specs.{Listing.{EntryModel, names, have_good_names, HaveDistinctNames}, ByteOrder.bytes_cmp}
use Rattle.lc_tree.specs.MovedEntries.{good_names_moved, distinct_names_moved, distinct_from_sorted}
use Rattle.lc_tree.proofs.listing.Listing.new.Goals as goal

pub returns-then-not-are_distinct : goal.returns-then-not-are_distinct
returns-then-not-are_distinct c =
    let some_twice : HaveDistinctNames c.sort_by_name.new.entries.items
    → ⊥ = subst (λ (l : List EntryModel). HaveDistinctNames l → ⊥) c.deref-2.ensures.value c.if-not-are_distinct.ensures in (
      subst (λ (l : List EntryModel). IsTrue (have_good_names l)) c.deref.ensures.value (sym c.if-not-all_good.ensures),
      λ apart. some_twice (distinct_names_moved c.args.entries.items c.sort_by_name.new.entries.items c.sort_by_name.ensures.same apart),
    )

pub returns-then-len-gt-MAX_ENTRIES : goal.returns-then-len-gt-MAX_ENTRIES
returns-then-len-gt-MAX_ENTRIES c =
    let moved = c.sort_by_name.ensures.same in
    let rising : IsStrictlySortedBy bytes_cmp (names c.sort_by_name.new.entries.items) = subst
    (λ (l : List EntryModel). IsStrictlySortedBy bytes_cmp (names l)) c.deref-2.ensures.value c.if-not-are_distinct.ensures in (
      subst (λ (l : List EntryModel). IsTrue (have_good_names l)) c.deref.ensures.value (sym c.if-not-all_good.ensures),
      distinct_from_sorted c.args.entries.items c.sort_by_name.new.entries.items moved rising,
      omega (arith, length_permutation c.args.entries.items c.sort_by_name.new.entries.items moved),
    )

pub invariant_of-result : goal.invariant_of-result
invariant_of-result c = record {
  good = good_names_moved c.args.entries.items c.sort_by_name.new.entries.items c.sort_by_name.ensures.same
      (subst (λ (l : List EntryModel). IsTrue (have_good_names l)) c.deref.ensures.value (sym c.if-not-all_good.ensures));
  order = subst (λ (l : List EntryModel). IsStrictlySortedBy bytes_cmp (names l)) c.deref-2.ensures.value c.if-not-are_distinct.ensures;
  few = omega arith;
}

pub returns : goal.returns
returns c = record {
  entries = c.sort_by_name.ensures.same;
  listing = invariant_of-result c;
}
