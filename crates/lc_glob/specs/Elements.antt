-- What the elements of a pattern stand for, whether these are the bytes of a simple one or tokens that were read.
use Rattle.std.specs.{Prelude.{ℕ, ◌≡◌, Bool, true, false, if◌then◌else◌, List, [], ◌∷◌, ◌++◌, map}, List.slice_split}
use Rattle.lc_glob.specs.{Tokens.{TokenModel, literal}, Patterns.{SegmentModel, plain, PatternModel}, Reading.segment_from}

module _ {A : Type 0} (tokens_in : List A → List TokenModel) (separates : A → Bool) where
  -- the tokens of the parts that separators cut elements into
  abbrev pub parts_in : List A → List (List TokenModel)
  parts_in elements = map tokens_in (slice_split separates elements)

  -- the element is this literal by itself, whatever is before or after it, and it separates no parts
  abbrev pub IsLiteral : A → ℕ → Type 0
  IsLiteral e b = (separates e ≡ false) × ((xs : List A) → tokens_in (xs ++ e ∷ []) ≡ tokens_in xs ++ literal b ∷ [])
      × ((xs : List A) → tokens_in (e ∷ xs) ≡ literal b ∷ tokens_in xs)

  -- the elements end with an element that is this literal by itself, and begin with one
  abbrev pub EndsWithLiteral : List A → ℕ → Type 0
  EndsWithLiteral elements b = (front : List A) × (e : A) × (elements ≡ front ++ e ∷ []) × IsLiteral e b

  abbrev pub BeginsWithLiteral : List A → ℕ → Type 0
  BeginsWithLiteral elements b = (e : A) × (others : List A) × (elements ≡ e ∷ others) × IsLiteral e b

  -- the segments of the parts that separators cut elements into, in an anchored pattern
  abbrev pub segments_in : List A → List SegmentModel
  segments_in elements = map (λ part. segment_from true (tokens_in part)) (slice_split separates elements)

  -- the pattern of elements without separators at their ends
  abbrev pub trimmed_model : Bool → Bool → List A → PatternModel
  trimmed_model is_dir_only is_anchored elements = record {
    is_dead = false;
    is_dir_only = is_dir_only;
    is_anchored = is_anchored;
    segments = if is_anchored then segments_in elements else plain (tokens_in elements) ∷ [];
  }
