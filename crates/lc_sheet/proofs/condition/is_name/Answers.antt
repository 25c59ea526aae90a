use Rattle.std.proofs.{Common.sym, lemmas.{Bool.Decides.Decides-eqb, Slice.Eq.{slice_eq-Decides, strip_prefix_is}}}
use Rattle.lc_sheet.proofs.SameTexts.{begins, differs, not_begun, same_rest}
use Rattle.lc_sheet.proofs.condition.is_name.Goals as goal

pub returns-in-None : goal.returns-in-None
returns-in-None c =
    let text = c.args.text.now in
    let front = c.as_bytes.result.now in
    rw (sym c.as_bytes.ensures.value) (differs text front c.args.name.bytes.now (not_begun c.strip_prefix.result text front
    (strip_prefix_is Decides-eqb text front c.strip_prefix.result c.strip_prefix.ensures.cases) c.in-None.is))

pub returns-in-Some : goal.returns-in-Some
returns-in-Some c =
    let text = c.args.text.now in
    let front = c.as_bytes.result.now in
    let rest = c.in-Some.bytes in
    let bytes = c.args.name.bytes.now in
    rw (sym c.as_bytes.ensures.value) (same_rest text front rest.now bytes c.eq.result (begins c.strip_prefix.result rest text front
    (strip_prefix_is Decides-eqb text front c.strip_prefix.result c.strip_prefix.ensures.cases) c.in-Some.is)
    (slice_eq-Decides Decides-eqb rest.now bytes c.eq.result c.eq.ensures))
