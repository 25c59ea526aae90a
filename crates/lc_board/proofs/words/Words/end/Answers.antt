use Rattle.std.proofs.Common.{arith, sym, ap, ◌∙◌, ◌∷◌, None, subst}
use Rattle.atomic_table.specs.Table.{rest}
use Rattle.lc_board.specs.{Ending.{MayEnd, end_event, row_in}, Holding.{holding, posted}, WordPass.{AreListed, AreTaken, IsTied}}
use Rattle.lc_board.specs.declared.words.view.Slot.TheVariants.{Row}
use Rattle.lc_board.proofs.{WordEnds.{ends_claim, end_frees, end_posts}, WordMarks.{keeps_added, listed_on, marked_added}}
use Rattle.lc_board.proofs.WordTies.{tied_ended}
use Rattle.lc_board.proofs.words.Words.end.Goals as goal

pub swap-requires : goal.swap-requires
swap-requires g c = let p = c.args.pass.now in let t = p.ties in let sq = c.args.self.now.square in
    let own = ap (λ z. z.slots) c.requires.board in
    let inside = t.inside c.in-Some.number c.in-Some.is in let now = c.fill.ensures.filled in let me = ap (λ m. m.0) now in
    let may = subst (λ k. MayEnd k c.args.ended) (sym (ap (λ v. posted v.mine) me ∙ t.posts_are)) c.requires.may in
    let row = ap (λ r. (c.in-Some.number, Row r) ∷ rest p.seat.me.1) c.into_row.ensures in (
      c.fill.ensures.board ∙ c.requires.board,
      omega arith,
      ends_claim _ _ _ _ _ _ _ c.args.ended (ap (λ v. v.live) me ∙ t.live) (omega arith) (ap (λ v. v.drawn) me ∙ t.idle)
          (ap (λ v. holding v.mine) me ∙ (t.holds ∙ c.in-Some.is)) may c.ended_by-code.ensures
          (ap (λ m. m.1) now ∙ row ∙ ap (λ m. (c.in-Some.number, Row (row_in c.args.ended)) ∷ rest m.1) (sym now)),
    )

pub invariant_of-pass : goal.invariant_of-pass
invariant_of-pass g c = let p = c.args.pass.now in let told = c.swap.ensures.2 in let same = c.swap.ensures.0 ∙ c.fill.ensures.board in
    let me = ap (λ m. m.0) c.fill.ensures.filled in
    let e = end_event c.fill.new.seat.me.0.worker c.in-Some.number told.1.0 in record {
      ties = subst (λ z. IsTied z.slots p.worker None 0 p.front p.low c.swap.new.seat.me) (sym same)
          (tied_ended p.seat.table_id.slots c.in-Some.number p.worker p.posted p.front p.low c.into_row.result e p.seat.me
          c.fill.new.seat.me c.swap.new.seat.me
          (end_frees c.fill.new.seat.me.0.worker c.in-Some.number told.1.0)
          (end_posts c.fill.new.seat.me.0.worker c.in-Some.number told.1.0) c.fill.ensures.filled told.0 told.1.3.1
          (subst (λ o. IsTied p.seat.table_id.slots p.worker o p.posted p.front p.low p.seat.me) c.in-Some.is p.ties));
      marked = marked_added _ _ c.fill.new.seat.me.0 c.swap.new.seat.me.0 e told.1.3
          (subst (λ v. AreTaken p.taken v.seen) (sym me) p.marked);
      listed = let v = c.fill.new.seat.me.0 in let w = c.swap.new.seat.me.0 in
          listed_on p.newest v w (keeps_added _ v w e told.1.3) (subst (λ z. AreListed p.newest z.seen) (sym me) p.listed);
      all_used = λ f. p.all_used f ∙ ap (λ z. z.slots) (sym same);
    }
