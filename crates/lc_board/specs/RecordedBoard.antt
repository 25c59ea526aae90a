-- What contracts see of the board under a lock, and the invariant of its fields.
use Rattle.std.specs.Prelude.{◌≡◌, ℕ, ◌+◌, ◌≤◌, List, [], ◌∷◌, map, length, Option, Some, None}
use Rattle.lc_board.specs.{Bare.{BareEvent, bare}, Numbers.HasNumbers, NewestFirst.newest_first, PlainBoard.{Board, workers_of, IsAfter}}
use Rattle.lc_board.specs.{declared.event.Event.Event, Limits.workers_limit}

-- the board, and its history, newest first, without jobs and rows
pub record Record (J R : Type 0) : Type 0 where
  pub board : Board J R
  pub history : List BareEvent

-- how many workers have a claim
abbrev pub held_count : List (Option ℕ) → ℕ
held_count [] = 0
held_count (None ∷ hs) = held_count hs
held_count (Some i ∷ hs) = held_count hs + 1

module _ {J R : Type 0} where
  -- the board has the state after a legal history, which is the stored history with jobs and rows; the numbers in use have no gap
  pub record IsRecorded (board : Board J R) (stored : List BareEvent) : Type 0 where
    pub root : J
    pub events : List (Event J R)
    pub after : IsAfter root events board
    pub stored_is : map bare events ≡ stored
    pub numbers : HasNumbers (length board.cells) events

  -- the board and the stored history satisfy `IsRecorded`, and the history has room for the end of each present claim
  pub record KeepsRoom (board : Board J R) (events : List BareEvent) (len room : ℕ) : Type 0 where
    pub recorded : IsRecorded board (newest_first events)
    pub ends_fit : len + held_count board.held ≤ room
    pub few : workers_of board ≤ workers_limit
