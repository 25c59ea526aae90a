use Rattle.std.proofs.Common.{append_assoc}
use Rattle.lc_formats.specs.JsonText.{integer}
use Rattle.lc_formats.proofs.Tokens.{array_tokens}
use Rattle.lc_formats.proofs.json_writer.JsonText.integers_member.Goals as goal

pub returns : goal.returns
returns c =
    rw (
      c.in_ok-end_array.ensures,
      c.in_ok-integers.ensures,
      c.in_ok-begin_array.ensures,
      c.in_ok-bytes_key.ensures,
      array_tokens integer c.args.bytes.now,
    )
    (simp append_assoc)
