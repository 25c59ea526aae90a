-- What the files of a tree give that reads a byte at a time, and the proof of the law of a tree, which is read from here.
use Rattle.std.proofs.Common.{ℕ, List, [], ◌∷◌, None}
use Rattle.lc_io.specs.Reads.{Stop, at_end, at_failure, at_neither}
use Rattle.lc_tree.specs.Trees.{Content, Contents, FillRooms, GivesContent, MayHold, Rooms}

-- reads into buffers of any lengths give what reads of the other tree into some buffers give
abbrev pub ByteByByte : Contents → Contents
ByteByByte gives rooms pieces stop = gives None pieces stop

any_fill : (pieces : List (List ℕ)) → FillRooms None pieces
any_fill [] = tt
any_fill (piece ∷ []) = tt
any_fill (piece ∷ next ∷ pieces) = (tt, any_fill (next ∷ pieces))

in_any_room : (content : Content) (rooms : Rooms) (pieces : List (List ℕ)) (stop : Stop) → GivesContent content rooms pieces stop
    → GivesContent content None pieces stop
in_any_room content rooms pieces at_end given = (given.0, given.1, given.2, any_fill pieces)
in_any_room content rooms pieces at_failure given = (given.0, given.1, given.2, any_fill pieces)
in_any_room content rooms pieces at_neither given = (given.0, given.1, any_fill pieces)

-- so such a file may have the content that it has
pub held_bytewise : (gives : Contents) → (c : Content) × MayHold gives c → (c : Content) × MayHold (ByteByByte gives) c
held_bytewise gives (c, holds) = (c, λ rooms pieces stop given. holds None pieces stop (in_any_room c rooms pieces stop given))
