use Rattle.std.proofs.Common.{◌∙◌, sym}
use Rattle.lc_text.specs.Escape.{escape_bytes}
use Rattle.lc_text.proofs.{Appended.appended, Plain.escape_bytes-plain}
use Rattle.lc_text.proofs.escaping.push_escaped.Goals as goal

pub returns-then-are_plain : goal.returns-then-are_plain
returns-then-are_plain c =
    appended c.extend_from_slice.result c.args.text.now.items c.args.bytes.now c.extend_from_slice.new.self.items
    (escape_bytes c.args.bytes.now) c.extend_from_slice.ensures.items
    (escape_bytes-plain c.args.bytes.now (sym c.are_plain.ensures ∙ c.if-are_plain.true))
