use Rattle.std.proofs.{Common.{map, ap, sym, ◌∙◌, rules}, lemmas.List.take-map}
use Rattle.lc_level.specs.FileAttributes.{owned_state}
use Rattle.lc_rows.proofs.parts.first_states.Goals as goal

pub returns : goal.returns
returns c =
    ap (map owned_state) c.split_at_top.ensures.first ∙ sym (take-map owned_state c.from.result c.deref-2.result.now)
    ∙ search rules
