use Rattle.std.proofs.Common.{◌++◌, ◌∙◌, ap, sym, chars, flat_map, map-id, string_bytes, List, ℕ}
use Rattle.std.proofs.lemmas.Iterator.{YieldsList-from_chars, Consumers.YieldsList-end}
use Rattle.std.specs.List.{list_all}
use Rattle.lc_text.specs.Visible.{is_clear, visible_char}
use Rattle.lc_text.proofs.{Appended.appended, Clear.visible_char-clear}
use Rattle.lc_text.proofs.visible.push_text.Goals as goal

pub returns-then-are_clear : goal.returns-then-are_clear
returns-then-are_clear c =
    appended c.push_str.result (string_bytes c.args.text.now) c.args.shown.now (string_bytes c.push_str.new.self)
    (flat_map visible_char (chars c.args.shown.now)) c.push_str.ensures.bytes
    (visible_char-clear c.args.shown.now
    (ap (list_all is_clear) (sym c.as_bytes.ensures.value) ∙ sym c.are_clear.ensures ∙ c.if-are_clear.true))

pub returns : goal.returns
returns c =
    let end = YieldsList-end (YieldsList-from_chars c.args.shown.now c.utf8.shown cc) c.loop-c.yielded _ c.loop-c.yielded_by _
    _ c.in-None.is
    c.next.ensures.steps in
    c.loop-c.invariant ∙ ap (λ (cs : List ℕ). string_bytes c.args.text.now ++ flat_map visible_char cs)
    (sym (map-id c.loop-c.yielded) ∙ end.0)
