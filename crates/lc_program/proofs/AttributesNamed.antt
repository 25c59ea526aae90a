-- The attributes that columns name, of one column more.
use Rattle.std.proofs.Common.{◌≡◌, ◌∙◌, ◌<◌, ◌+◌, ℕ, Bool, true, false, not, cond, List, [], ◌∷◌, ◌++◌, Some, None, ap, append-nil}
use Rattle.std.proofs.Common.{append_assoc, get_or, length, sym, take}
use Rattle.std.proofs.lemmas.{Bool.{not-false, not-true}, List.{Elements.filter_map-append, map-append, take_more}}
use Rattle.std.specs.{Borrow.Bor, List.filter_map, Str.bytes_eq}
use Rattle.lc_level.specs.{Filters.attribute_of as attribute_in, NamedAttributes.attributes_of}
use Rattle.lc_program.specs.WalkRequests.{own_attribute}
use Rattle.lc_sheet.specs.AttributeColumns.{attribute_of, language_name}

module _ (columns : List (Bor (List ℕ))) (i : ℕ) (d : Bor (List ℕ)) (low : i < length columns) (before : List (List ℕ))
    (old : List (Bor (List ℕ))) (was : attributes_of old ≡ before ++ filter_map own_attribute (take i columns)) where
  abbrev column : Bor (List ℕ)
  column = get_or columns i d

  more : (new : List (Bor (List ℕ))) (last : List (List ℕ)) → filter_map own_attribute (column ∷ []) ≡ last
      → attributes_of new ≡ attributes_of old ++ last → attributes_of new ≡ before ++ filter_map own_attribute (take (i + 1) columns)
  more new last is grown =
      let named : List (List ℕ) = filter_map own_attribute (take i columns) in
      grown ∙ ap (λ l. l ++ last) was ∙ append_assoc before named last
      ∙ ap (λ l. before ++ l) (ap (λ l. named ++ l) (sym is)
      ∙ sym (ap (filter_map own_attribute) (take_more columns i d low)
      ∙ filter_map-append own_attribute (take i columns) (column ∷ [])))

  -- what a column names, by whether it is that of languages
  own : (b : Bool) → bytes_eq column.now language_name ≡ b
      → filter_map own_attribute (column ∷ []) ≡ cond b [] (attribute_in (attribute_of column.now) ∷ [])
  own true e =
      ap (λ c. filter_map (λ (y : Bor (List ℕ)). cond c None (Some (attribute_in (attribute_of y.now)))) (column ∷ [])) e
  own false e =
      ap (λ c. filter_map (λ (y : Bor (List ℕ)). cond c None (Some (attribute_in (attribute_of y.now)))) (column ∷ [])) e

  -- that of languages names none
  pub languages_passed : (new : List (Bor (List ℕ))) → not (bytes_eq column.now language_name) ≡ false → new ≡ old
      → attributes_of new ≡ before ++ filter_map own_attribute (take (i + 1) columns)
  languages_passed new is same =
      more new [] (own true (not-false (bytes_eq column.now language_name) is))
      (ap attributes_of same ∙ sym (append-nil (attributes_of old)))

  -- and any other names its own
  pub attribute_added : (new : List (Bor (List ℕ))) (attribute : Bor (List ℕ)) → not (bytes_eq column.now language_name) ≡ true
      → new ≡ old ++ attribute ∷ [] → attribute.now ≡ attribute_of column.now
      → attributes_of new ≡ before ++ filter_map own_attribute (take (i + 1) columns)
  attribute_added new attribute is grown names =
      more new (attribute_in (attribute_of column.now) ∷ []) (own false (not-true (bytes_eq column.now language_name) is))
      (ap attributes_of grown ∙ map-append (λ (word : Bor (List ℕ)). attribute_in word.now) old (attribute ∷ [])
      ∙ ap (λ a. attributes_of old ++ attribute_in a ∷ []) names)
