-- The columns of one attribute more.
use Rattle.std.proofs.{Common.{◌≡◌, ℕ, ◌+◌, ◌++◌, [], ◌∷◌, zero-add}, lemmas.List.FromFn.map-range_with_len_more}
use Rattle.lc_changes.specs.ChangeColumns.{compared_attributes}
use Rattle.lc_sheet.specs.declared.{column.Compared.TheVariants.Key, key.Key.TheVariants.Attribute}

pub one_attribute_more : (n : ℕ) → compared_attributes (n + 1) ≡ compared_attributes n ++ Key (Attribute n) ∷ []
one_attribute_more n = map-range_with_len_more (λ place. Key (Attribute place)) 0 n n (zero-add n)
