use Rattle.std.proofs.Common.{rules, ◌≡◌, ◌++◌, ◌∷◌, [], suc, append_assoc, arith, refl}
use Rattle.std.proofs.lemmas.List.{map-append, append-nil, nil_from_length}
use Rattle.std.specs.Vec.Iter.{into_iter_items}
use Rattle.lc_board.proofs.plain.scans.all_ended.Goals as goal

pub loop-cell-init : goal.loop-cell-init
loop-cell-init g c = let all = c.into_iter-cell-iterator.ensures.into_iter_gives.0 in record {
  so_far = rw (c.in_ok-rows.ensures.items, all) refl;
  ended = rw all c.requires;
}

pub into_row-requires : goal.into_row-requires
into_row-requires g c = let ended = c.loop-cell.invariant.ended 0 in rw c.in-Some.ensures.steps.0 at ended

pub loop-cell-preserved : goal.loop-cell-preserved
loop-cell-preserved g c = record {
  so_far =
      let before = rw c.in-Some.ensures.steps.0 at c.loop-cell.invariant.so_far in
      let items : c.push.new.self.items ≡ c.loop-cell.rows.items ++ c.into_row.result ∷ [] = search rules in
      rw (items, map-append, append_assoc, c.into_row.ensures) before;
  ended = λ k. let h = c.loop-cell.invariant.ended (suc k) in rw c.in-Some.ensures.steps.0 at h;
}

pub returns : goal.returns
returns g c =
    let none : into_iter_items c.loop-cell.cell-iterator ≡ [] = nil_from_length _ (omega (arith, c.in-None.ensures.steps.0)) in
    let all = rw (none, append-nil) at c.loop-cell.invariant.so_far in all
