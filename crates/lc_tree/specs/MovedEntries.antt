-- What stays true of entries when their order changes: proofs for the law of a tree, which reads them from here.
use Rattle.std.proofs.{Common.{◌≡◌, List, true}, lemmas.Cmp.{nat_list_cmp_total, eq_by_cmp_equiv}}
use Rattle.std.proofs.lemmas.List.Sums.{AllPass-from_list_all, list_all-from_AllPass}
use Rattle.std.proofs.lemmas.List.Sorted.{All-permutation, IsPermutation-map, IsPermutation-sym}
use Rattle.std.proofs.lemmas.Map.Keys.{IsDistinct-IsPermutation, IsDistinct-from_sorted}
use Rattle.std.specs.{Prelude.IsTrue, List.Sorted.{IsPermutation, IsStrictlySortedBy}}
use Rattle.lc_glob.specs.Path.{is_good_name}
use Rattle.lc_tree.specs.{Listing.{EntryModel, names, have_good_names, HaveDistinctNames}, ByteOrder.bytes_cmp}

-- good names stay good
pub good_names_moved : (es fs : List EntryModel) → IsPermutation es fs → IsTrue (have_good_names es) → IsTrue (have_good_names fs)
good_names_moved es fs moved good =
    let test = λ (e : EntryModel). is_good_name e.name in
    list_all-from_AllPass test fs (All-permutation (λ (e : EntryModel). test e ≡ true) es fs moved (AllPass-from_list_all test es good))

-- distinct names stay distinct
pub distinct_names_moved : (es fs : List EntryModel) → IsPermutation es fs → HaveDistinctNames es → HaveDistinctNames fs
distinct_names_moved es fs moved =
    IsDistinct-IsPermutation _ ((eq_by_cmp_equiv nat_list_cmp_total).symm) (names es) (names fs)
    (IsPermutation-map (λ (e : EntryModel). e.name) es fs moved)

-- if the names of entries are strictly increasing once the entries are sorted, no two names are the same
pub distinct_from_sorted : (es fs : List EntryModel) → IsPermutation es fs → IsStrictlySortedBy bytes_cmp (names fs) → HaveDistinctNames es
distinct_from_sorted es fs moved rising =
    distinct_names_moved fs es (IsPermutation-sym es fs moved) (IsDistinct-from_sorted bytes_cmp (names fs) rising)
