use Rattle.std.proofs.Common.{◌∙◌, ap, sym, true}
use Rattle.lc_glob.specs.{Path.segments_of, Views.live_model}
use Rattle.lc_glob.proofs.{ExactPaths.exact_segments, SimpleBytes.ends_segments}
use Rattle.lc_glob.proofs.simple_pattern.path_kind.Goals as goal

pub returns-then-are_literals : goal.returns-then-are_literals
returns-then-are_literals c = λ is_dir_only.
    ap (live_model is_dir_only true) (exact_segments c.args.bytes.now (sym c.are_literals.ensures ∙ c.if-are_literals.true))

pub returns-then-has_ends : goal.returns-then-has_ends
returns-then-has_ends c = λ is_dir_only.
    ap (live_model is_dir_only true) (ends_segments (segments_of c.args.bytes.now)
    (sym c.has_ends.ensures ∙ c.if-has_ends.true))
