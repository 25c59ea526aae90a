use Rattle.std.proofs.Common.{[], ◌∷◌, ◌++◌, sym, ◌∙◌, ap}
use Rattle.std.specs.Ordering.{is_lt}
use Rattle.lc_glob.specs.Bytes.{slash}
use Rattle.lc_level.proofs.{AskedPaths.after_is, PathOrder.{before_more, begin_alike}}
use Rattle.lc_tree.specs.ByteOrder.{bytes_cmp}
use Rattle.lc_level.proofs.narrowing.below.is_before_below.Goals as goal

pub returns-in-None : goal.returns-in-None
returns-in-None c =
    c.is_lt.ensures ∙ ap is_lt c.cmp.ensures
    ∙ sym (before_more c.args.other.now (slash ∷ []) c.args.path.now (sym c.in-None.ensures))

pub returns-in-Some : goal.returns-in-Some
returns-in-Some c =
    c.is_lt-in-Some.ensures ∙ ap is_lt (c.cmp-in-Some.ensures ∙ ap (bytes_cmp c.in-Some.rest.now) c.as_slice.ensures)
    ∙ ap is_lt
    (sym (begin_alike c.args.other.now c.in-Some.rest.now (slash ∷ []))
    ∙ ap (λ p. bytes_cmp p (c.args.other.now ++ slash ∷ []))
    (sym (after_is c.args.other.now c.args.path.now c.in-Some.rest.now (sym c.in-Some.ensures))))
