use Rattle.std.proofs.Common.{◌∙◌, ap, sym, chars, flat_map, string_bytes, List, ℕ}
use Rattle.lc_text.specs.Visible.{visible_byte, visible_bytes, visible_char}
use Rattle.lc_text.proofs.{Appended.appended_same, Clear.{visible_bytes-text, visible_bytes-other}}
use Rattle.lc_text.proofs.visible.push_visible.Goals as goal

pub returns-in-Ok : goal.returns-in-Ok
returns-in-Ok c =
    appended_same c.push_text.result (string_bytes c.args.text.now) (string_bytes c.push_text.new.text)
    (flat_map visible_char (chars c.in-Ok.shown.now)) (visible_bytes c.args.bytes.now) c.push_text.ensures
    (visible_bytes-text c.args.bytes.now c.in-Ok.ensures.cases.1
    ∙ ap (λ (bs : List ℕ). flat_map visible_char (chars bs)) (sym c.in-Ok.ensures.cases.0))

pub returns-in-Err : goal.returns-in-Err
returns-in-Err c =
    appended_same c.push_each_byte.result (string_bytes c.args.text.now) (string_bytes c.push_each_byte.new.text)
    (flat_map visible_byte c.args.bytes.now) (visible_bytes c.args.bytes.now) c.push_each_byte.ensures
    (visible_bytes-other c.args.bytes.now c.in-Err.ensures.cases.0)
