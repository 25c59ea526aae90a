-- What contracts see of a pass of a locked board.
use Rattle.lc_board.specs.{Notes.mine_of, Pass.Pass, declared.locked.pass.LockedPass.LockedPass}

-- the pass's worker, the events that the pass has stored, and whether a post returned Full and a claim returned Memory
abbrev pub told : {J R : Type 0} → LockedPass J R → Pass J R
told p = record { worker = p.worker; mine = mine_of p.notes.items; full = p.full; refused = p.refused }
