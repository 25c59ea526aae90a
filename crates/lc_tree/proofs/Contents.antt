-- What the reads of a file of memory give.
use Rattle.std.proofs.Common.{◌≡◌, ◌≢◌, ℕ, zero, suc, ◌<◌, List, [], ◌∷◌, ◌++◌, length, take, drop, refl, sym, ◌∙◌, ap, subst}
use Rattle.std.proofs.{Common.{append_assoc, arith}, lemmas.List.{append-nil, take-append-drop}}
use Rattle.std.specs.List.{concat}
use Rattle.lc_io.specs.Reads.{Reads, Stop, at_end, at_failure, at_neither}
use Rattle.lc_tree.specs.{MemTrees.ReadsContent, Trees.{AreSome, Content, FillRooms, GivesContent, IsRoom, Rooms}}

-- where no byte is given into some room, none is left
none_left : (room : ℕ) (bytes : List ℕ) → 0 < room → [] ≡ take room bytes → bytes ≡ []
none_left zero bytes some e = let no : ⊥ = omega arith in absurd no
none_left (suc room) [] some e = refl
none_left (suc room) (b ∷ bytes) some e = absurd (cc)

-- a piece from the front, and these bytes of what is left
after_piece : (bytes piece given : List ℕ) (room : ℕ) → piece ≡ take room bytes → given ≡ drop room bytes → piece ++ given ≡ bytes
after_piece bytes piece given room first next =
    ap (λ (l : List ℕ). l ++ given) first ∙ (ap (λ (l : List ℕ). take room bytes ++ l) next ∙ take-append-drop room bytes)

-- a buffer is full where bytes are left after it
filled : (room : ℕ) (bytes : List ℕ) → drop room bytes ≢ [] → length (take room bytes) ≡ room
filled zero bytes more = refl
filled (suc room) [] more = absurd (more refl)
filled (suc room) (b ∷ bytes) more = ap suc (filled room bytes more)

-- what gives a piece has bytes
some_left : (piece others bytes : List ℕ) → piece ≢ [] → piece ++ others ≡ bytes → bytes ≢ []
some_left [] others bytes some is = absurd (some refl)
some_left (b ∷ piece) others bytes some is = λ e. let no : b ∷ (piece ++ others) ≡ [] = is ∙ e in cc no

-- a piece before others fills its buffer
fill_more : (rooms : Rooms) (room : ℕ) (bytes piece : List ℕ) (pieces : List (List ℕ)) (rest : List ℕ) → IsRoom rooms room
    → piece ≡ take room bytes → AreSome pieces → concat pieces ++ rest ≡ drop room bytes → FillRooms rooms pieces
    → FillRooms rooms (piece ∷ pieces)
fill_more rooms room bytes piece [] rest is first some given fill = tt
fill_more rooms room bytes piece (next ∷ pieces) rest is first some given fill =
    let left : drop room bytes ≢ [] = some_left next (concat pieces ++ rest) (drop room bytes) some.0
    (sym (append_assoc next (concat pieces) rest) ∙ given) in
    (subst (IsRoom rooms) (sym (ap length first ∙ filled room bytes left)) is, fill)

-- a piece, and what is given of what is left
with_piece : (rooms : Rooms) (old : Content) (piece : List ℕ) (room : ℕ) (pieces : List (List ℕ)) (stop : Stop) → IsRoom rooms room
    → piece ≢ [] → piece ≡ take room old.bytes
    → GivesContent (record { bytes = drop room old.bytes; fails = old.fails }) rooms pieces stop
    → GivesContent old rooms (piece ∷ pieces) stop
with_piece rooms old piece room pieces at_end is some first gives = (
  (some, gives.0),
  after_piece old.bytes piece (concat pieces) room first gives.1,
  gives.2,
  fill_more rooms room old.bytes piece pieces [] is first gives.0 (append-nil (concat pieces) ∙ gives.1) gives.3,
)
with_piece rooms old piece room pieces at_failure is some first gives = (
  (some, gives.0),
  after_piece old.bytes piece (concat pieces) room first gives.1,
  gives.2,
  fill_more rooms room old.bytes piece pieces [] is first gives.0 (append-nil (concat pieces) ∙ gives.1) gives.3,
)
with_piece rooms old piece room pieces at_neither is some first gives = (
  (some, gives.0),
  (
    gives.1.0,
    append_assoc piece (concat pieces) gives.1.0 ∙ after_piece old.bytes piece
        (concat pieces ++ gives.1.0) room first gives.1.1,
  ),
  fill_more rooms room old.bytes piece pieces gives.1.0 is first gives.0 gives.1.1 gives.2,
)

-- what reads give is of the content
pub reads_give : (rooms : Rooms) (old new : Content) (pieces : List (List ℕ)) (stop : Stop)
    → Reads ReadsContent (IsRoom rooms) old pieces stop new → GivesContent old rooms pieces stop
reads_give rooms old new [] at_end reads =
    let empty = none_left reads.0 old.bytes reads.1 reads.3.0 in (tt, sym empty, reads.3.2 empty, tt)
reads_give rooms old new [] at_failure reads = (tt, sym reads.3.0, reads.3.1, tt)
reads_give rooms old new [] at_neither reads = (tt, (old.bytes, refl), tt)
reads_give rooms old new (piece ∷ pieces) stop reads =
    let middle : Content = reads.0 in
    let read = reads.2 in
    with_piece rooms old piece read.0 pieces stop read.2 reads.1 read.3.0
    (subst (λ (c : Content). GivesContent c rooms pieces stop) read.3.1 (reads_give rooms middle new pieces stop reads.3))
