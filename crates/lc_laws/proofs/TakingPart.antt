-- The items that take part in a walk of a whole tree.
use Rattle.std.proofs.{Common.{arith, ◌≡◌, ℕ, List, None}, lemmas.Grind.common_steps}
use Rattle.std.specs.List.{Contains}
use Rattle.lc_level.specs.{Answers.Item, Narrowing.part_of, Filters.FiltersModel}
use Rattle.lc_level.proofs.AskedPaths.{all_take_part}
use Rattle.lc_walk.proofs.{Elements.{In, is_in, contains}, TakingPart.in_filter}

-- an item that takes part is one of the items
pub in_part : (s : FiltersModel) (d : List ℕ) (item : Item) (items : List Item) → Contains (part_of s.only d items) item → In item items
in_part s d item items has = (in_filter _ item items (is_in item (part_of s.only d items) has)).0

-- where no path is asked for each item takes part
pub part_has : (s : FiltersModel) → s.only ≡ None → (d : List ℕ) (item : Item) (items : List Item) → In item items
    → Contains (part_of s.only d items) item
part_has s whole d item items has = grind (arith, common_steps, all_take_part, contains)
