-- Chains of directories. A directory in which all but too little for a box is in one directory is one box with that.
use Rattle.std.specs.Prelude.{ℕ, ◌+◌, ◌-◌, ◌==◌, ◌&&◌, Bool, true, false, nat_le, nat_lt, if◌then◌else◌, List, [], ◌∷◌, ◌++◌, drop, length}
use Rattle.std.specs.{Prelude.{take, unwrap_or, Option, Some, None}, List.slice_index_or}
use Rattle.lc_rows.specs.ShownRows.{number_in}
use Rattle.lc_sheet.specs.declared.column.Number.{Number}
use Rattle.lc_picture.specs.Boxes.{BoxModel, moved}

-- whether the second of two boxes of directories is right in the first, and what is left of the first is less than the least that is drawn.
-- The top directory is in no chain
abbrev pub is_link : Number → ℕ → BoxModel → BoxModel → Bool
is_link by least b c =
    nat_le 1 b.depth && ((c.depth == b.depth + 1) && nat_lt (number_in by b.sums - number_in by c.sums) least)

-- whether a chain goes on from a box to the one that follows
abbrev pub goes_on : Number → ℕ → BoxModel → List BoxModel → Bool
goes_on by least b [] = false
goes_on by least b (c ∷ cs) = is_link by least b c

-- how many boxes are around a box once chains are joined, where a list has this number for each depth inside the boxes that are open
abbrev pub joined_depth : List ℕ → BoxModel → ℕ
joined_depth depths b = slice_index_or depths b.depth 0

-- this list after a box: the boxes right in it are as deep as itself if the chain goes on, and one deeper otherwise
abbrev pub depths_after : List ℕ → BoxModel → Bool → List ℕ
depths_after depths b is_on = take (b.depth + 1) depths ++ (joined_depth depths b + (if is_on then 0 else 1)) ∷ []

-- where in its path the name of a box begins: where that of the first box of its chain does, if boxes before are in its chain
abbrev pub name_start : Option ℕ → BoxModel → ℕ
name_start start b = unwrap_or start (length b.path - length b.own_name)

-- the name of a box: the names of the directories of its chain
abbrev pub joined_name : Option ℕ → BoxModel → List ℕ
joined_name None b = b.own_name
joined_name (Some start) b = drop start b.path

-- the boxes of directories that come depth first, each chain as the box of its last directory, with the names of all
abbrev pub joined_from : Number → ℕ → List ℕ → Option ℕ → List BoxModel → List BoxModel
joined_from by least depths start [] = []
joined_from by least depths start (b ∷ bs) =
    if goes_on by least b bs
    then joined_from by least (depths_after depths b true) (Some (name_start start b)) bs
    else moved (joined_depth depths b) (joined_name start b) b ∷ joined_from by least (depths_after depths b false) None bs

abbrev pub joined : Number → ℕ → List BoxModel → List BoxModel
joined by least bs = joined_from by least (0 ∷ []) None bs
