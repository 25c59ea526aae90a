use Rattle.std.proofs.Common.{◌∙◌, ap, sym, length, nat_lt}
use Rattle.lc_glob.specs.Path.{max_path}
use Rattle.lc_level.proofs.path_buffer.PathBuffer.set_short.Goals as goal

pub returns-then-is_too_long-clause-named : goal.returns-then-is_too_long-clause-named
returns-then-is_too_long-clause-named c =
    ap (λ p. nat_lt max_path (length p)) (sym (c.as_slice-path.ensures ∙ c.in-Ok.ensures.path)) ∙ sym c.if-is_too_long.ensures

pub returns-clause-named : goal.returns-clause-named
returns-clause-named c = (
  c.in-Ok.ensures.path,
  ap (λ p. nat_lt max_path (length p)) (sym (c.as_slice-path.ensures ∙ c.in-Ok.ensures.path)) ∙ sym c.if-is_too_long.ensures,
)
