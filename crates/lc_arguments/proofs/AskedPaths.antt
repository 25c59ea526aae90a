-- The paths that words ask for.
use Rattle.std.proofs.{Common.{◌≡◌, ◌∙◌, ◌<◌, ℕ, true, List, length, map, ap, sym}, lemmas.{List.Folds.list_any_at, Simd.map-map}}
use Rattle.std.specs.{Borrow.Bor, List.{list_any, slice_index_or}}
use Rattle.clap.proofs.WalkLemmas.{list_any-map}
use Rattle.lc_arguments.specs.Words.{is_bad_part, part_of}

-- the paths of lent words are those of the words
pub paths_lent : (words : List (Bor (List ℕ)))
    → map (λ word. part_of word.now) words ≡ map part_of (map (λ (word : Bor (List ℕ)). word.now) words)
paths_lent words = sym (map-map part_of (λ (word : Bor (List ℕ)). word.now) words)

-- and so is whether one can be no path
pub some_bad : (words : List (Bor (List ℕ)))
    → list_any (λ word. is_bad_part (part_of word.now)) words
    ≡ list_any is_bad_part (map part_of (map (λ (word : Bor (List ℕ)). word.now) words))
some_bad words =
    list_any-map is_bad_part (λ (word : Bor (List ℕ)). part_of word.now) words ∙ ap (list_any is_bad_part) (paths_lent words)

-- one that can be no path
pub one_misplaced : (words : List (Bor (List ℕ))) (k : ℕ) (d : Bor (List ℕ)) → k < length words
    → is_bad_part (part_of (slice_index_or words k d).now) ≡ true
    → list_any is_bad_part (map part_of (map (λ (word : Bor (List ℕ)). word.now) words)) ≡ true
one_misplaced words k d low bad = sym (some_bad words)
    ∙ list_any_at (λ (word : Bor (List ℕ)). is_bad_part (part_of word.now)) words k d low bad
