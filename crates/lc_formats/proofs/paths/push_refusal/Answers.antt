use Rattle.std.proofs.Common.{codes, string_bytes}
use Rattle.lc_text.specs.Visible.{visible_bytes}
use Rattle.lc_formats.proofs.Tokens.{in_turn_3}
use Rattle.lc_formats.proofs.paths.push_refusal.Goals as goal

pub returns : goal.returns
returns c =
    rw (c.in_ok-push_str-2.ensures.bytes, c.in_ok-push_visible.ensures, c.in_ok-push_str.ensures.bytes)
    (in_turn_3 (string_bytes c.args.refused.now) (codes "lc: ") (visible_bytes c.args.path.now) (codes " has a line feed: use -0\n"))
