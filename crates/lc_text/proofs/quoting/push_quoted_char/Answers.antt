use Rattle.std.proofs.Common.{encode_utf8, flat_map, string_bytes}
use Rattle.lc_text.specs.Quoting.{quote_byte}
use Rattle.lc_text.proofs.{Appended.appended, ShellWords.quote_byte-char}
use Rattle.lc_text.proofs.quoting.push_quoted_char.Goals as goal

pub returns-else-c-eq39 : goal.returns-else-c-eq39
returns-else-c-eq39 c =
    appended c.push.result (string_bytes c.args.text.now) (encode_utf8 c.args.c) (string_bytes c.push.new.self)
    (flat_map quote_byte (encode_utf8 c.args.c)) c.push.ensures.bytes
    (quote_byte-char c.args.c c.if-c-eq39.false)
