-- Chains that are one box.
use Rattle.std.proofs.Common.{◌≡◌, ℕ, Bool, true, false, if◌then◌else◌, List, [], ◌∷◌, map, Option, refl, ap}
use Rattle.lc_sheet.specs.declared.column.Number.{Number}
use Rattle.lc_picture.specs.{Boxes.{BoxModel, moved}, Chains.{depths_after, goes_on, joined_depth, joined_from}}
use Rattle.lc_picture.specs.{Chains.{joined_name, name_start}, Laws.{ChainsLaw, ends_of_chains, unplaced}}
use Rattle.std.specs.Prelude.{Some, None}

one_joined : (by : Number) (least : ℕ) (depths : List ℕ) (start : Option ℕ) (b : BoxModel) (bs : List BoxModel) (is_on : Bool)
    → map unplaced (joined_from by least (depths_after depths b true) (Some (name_start start b)) bs)
    ≡ map unplaced (ends_of_chains by least bs)
    → map unplaced (joined_from by least (depths_after depths b false) None bs) ≡ map unplaced (ends_of_chains by least bs)
    → map unplaced (if is_on then joined_from by least (depths_after depths b true) (Some (name_start start b)) bs
    else moved (joined_depth depths b) (joined_name start b) b ∷ joined_from by least (depths_after depths b false) None bs)
    ≡ map unplaced (if is_on then ends_of_chains by least bs else b ∷ ends_of_chains by least bs)
one_joined by least depths start b bs true on off = on
one_joined by least depths start b bs false on off = ap (λ (cs : List BoxModel). unplaced b ∷ cs) off

all_joined : (by : Number) (least : ℕ) (depths : List ℕ) (start : Option ℕ) (bs : List BoxModel)
    → map unplaced (joined_from by least depths start bs) ≡ map unplaced (ends_of_chains by least bs)
all_joined by least depths start [] = refl
all_joined by least depths start (b ∷ bs) =
    one_joined by least depths start b bs (goes_on by least b bs)
    (all_joined by least (depths_after depths b true) (Some (name_start start b)) bs)
    (all_joined by least (depths_after depths b false) None bs)

pub chains_law : ChainsLaw
chains_law by least bs = all_joined by least (0 ∷ []) None bs
