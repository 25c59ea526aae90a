use Rattle.std.proofs.{Common.{◌∙◌, sym, arith}, lemmas.Bool.false≢true}
use Rattle.lc_glob.proofs.Fitting.{ends_decide, fits_as_many}
use Rattle.lc_glob.proofs.match_segment.fits_end.Goals.{else-is_whole-via-then-is_whole+else-len-literals, else-is_whole-via-else-is_whole}
use Rattle.lc_glob.proofs.match_segment.fits_end.Goals as goal

pub returns-then-len-literals-clause-fits : goal.returns-then-len-literals-clause-fits
returns-then-len-literals-clause-fits c = (
  λ t. cc,
  λ f. let len = fits_as_many c.args.literals.now c.args.segment.bytes.now (rw c.if-is_whole.true at f) in
      absurd (c.if-len-literals.true (omega (arith, c.len.ensures, len))),
)

pub returns-clause-fits : goal.returns-clause-fits
returns-clause-fits c =
    rw c.ends_with.ensures.ends (ends_decide c.args.is_whole c.args.literals.now c.args.segment.bytes.now (elim c.else-is_whole.branch [
      | else-is_whole-via-then-is_whole+else-len-literals w ↦ λ t. omega (arith, w.len.ensures, w.if-len-literals.false)
      | else-is_whole-via-else-is_whole w ↦ λ t. absurd (false≢true (sym w.if-is_whole.false ∙ t))
    ]))
