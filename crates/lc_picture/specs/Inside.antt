-- The law that a box opens inside the box of the directory that holds it.
use Rattle.std.specs.Prelude.{◌≡◌, ℕ, if◌then◌else◌, List, [], ◌∷◌, ◌++◌, drop, length, ⊤}
use Rattle.lc_sheet.specs.declared.column.Number.{Number}
use Rattle.lc_picture.specs.{declared.scale.Scale.Scale, Boxes.BoxModel, Laws.ends_box, Nested.boxes_in, Pieces.{Piece, count, markup, name}}
use Rattle.lc_picture.specs.{Pieces.{percent, share, title, word}, Rests.shown_name}

-- the boxes that a reader of a page finds, each as its name and the names of the boxes around it, the innermost first. A name opens a box,
-- and a closing tag ends the innermost box. `around` has the names of the boxes that are open
abbrev pub boxes_read : List (List ℕ) → List Piece → List (List (List ℕ))
boxes_read around [] = []
boxes_read around (markup t ∷ ps) = boxes_read (if ends_box (markup t) then drop 1 around else around) ps
boxes_read around (share n ∷ ps) = boxes_read around ps
boxes_read around (word n ∷ ps) = boxes_read around ps
boxes_read around (count n ∷ ps) = boxes_read around ps
boxes_read around (percent part whole ∷ ps) = boxes_read around ps
boxes_read around (title t ∷ ps) = boxes_read around ps
boxes_read around (name t ∷ ps) = (t ∷ around) ∷ boxes_read (t ∷ around) ps

-- directories, each as its name and those of the directories above it, come depth first: each is right in the one before it, in one above
-- that, or in none. `before` is the one before them
abbrev pub ComeDepthFirst : List (List ℕ) → List (List (List ℕ)) → Type 0
ComeDepthFirst before [] = ⊤
ComeDepthFirst before ([] ∷ ds) = ⊥
ComeDepthFirst before ((own ∷ above) ∷ ds) =
    ((left : List (List ℕ)) × (before ≡ left ++ above)) × ComeDepthFirst (own ∷ above) ds

-- these are boxes of these directories: each has the name of its directory or its rest, as a page shows it, and its depth
abbrev pub AreBoxesAt : Number → List BoxModel → List (List (List ℕ)) → Type 0
AreBoxesAt by [] [] = ⊤
AreBoxesAt by [] (d ∷ ds) = ⊥
AreBoxesAt by (b ∷ bs) [] = ⊥
AreBoxesAt by (b ∷ bs) ([] ∷ ds) = ⊥
AreBoxesAt by (b ∷ bs) ((own ∷ above) ∷ ds) =
    ((shown_name by b ≡ own) × (b.depth ≡ length above)) × AreBoxesAt by bs ds

-- a reader of boxes that come depth first finds each directory, inside those above it
abbrev pub InsideLaw : Type 0
InsideLaw =
    (scale : Scale) (bs : List BoxModel) (ds : List (List (List ℕ))) → ComeDepthFirst [] ds → AreBoxesAt scale.by bs ds
    → boxes_read [] (boxes_in scale 0 bs) ≡ ds
