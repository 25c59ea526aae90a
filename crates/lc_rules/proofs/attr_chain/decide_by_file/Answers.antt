use Rattle.std.proofs.Common.{refl, ◌∙◌, sym, ap}
use Rattle.std.specs.List.{list_any}
use Rattle.lc_rules.specs.{Attributes.AssignmentModel, AttrLines.PatternLineModel, KnownMacros.{macros_for, matters}}
use Rattle.lc_rules.proofs.{Deciding.none_decides, ReadingOrder.lines_none}
use Rattle.lc_rules.proofs.attr_chain.decide_by_file.Goals as goal

pub returns-then-not-can_decide : goal.returns-then-not-can_decide
returns-then-not-can_decide c =
    let ms = macros_for c.args.query in
    let wanted = c.args.query.name.now in
    none_decides c.requires
    (lines_none (λ a. matters ms wanted a.0) c.args.file.now.lines c.args.path.now c.args.is_dir
    (ap (list_any (λ (l : PatternLineModel). list_any (λ (a : AssignmentModel). matters ms wanted a.0) l.assigns))
    (sym c.lines-lines.ensures) ∙ c.if-not-can_decide.ensures refl))
