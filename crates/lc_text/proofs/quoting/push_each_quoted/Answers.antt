use Rattle.std.proofs.Common.{◌++◌, chars, encode_utf8, flat_map, string_bytes, sym, ap, ◌∙◌, map-id, List, ℕ}
use Rattle.std.proofs.lemmas.{Iterator.{YieldsList-from_chars, Consumers.YieldsList-end}, Str.encodes-chars}
use Rattle.lc_text.specs.Quoting.{quote_byte}
use Rattle.lc_text.proofs.quoting.push_each_quoted.Goals as goal

pub returns : goal.returns
returns c =
    let end = YieldsList-end (YieldsList-from_chars c.args.word.now c.utf8.word cc) c.loop-c.yielded _ c.loop-c.yielded_by _
    _ c.in-None.is
    c.next.ensures.steps in
    c.loop-c.invariant ∙ ap (λ (bs : List ℕ). string_bytes c.args.text.now ++ flat_map quote_byte bs)
    (ap (flat_map encode_utf8) (sym (map-id c.loop-c.yielded) ∙ end.0) ∙ encodes-chars c.args.word.now c.utf8.word)
