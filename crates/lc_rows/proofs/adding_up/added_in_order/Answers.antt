use Rattle.std.proofs.{Common.{subst, sym, List}, lemmas.List.nil_from_length}
use Rattle.lc_rows.proofs.Folding.{IsFolded, folded_all, folded_first, folded_more, folded_none}
use Rattle.lc_rows.specs.{RowKeys.ShownRowModel, ShownRows.AreAddedUp}
use Rattle.lc_rows.proofs.adding_up.added_in_order.Goals as goal

pub returns-in_default : goal.returns-in_default
returns-in_default c =
    subst (AreAddedUp c.args.parts.now) (sym c.new-rows.ensures.items) (folded_none c.args.parts.now c.in_default.ensures.cases)

pub parts-init : goal.parts-init
parts-init c =
    subst (λ (rs : List ShownRowModel). IsFolded c.args.parts.now rs c.of-last.result c.in-Some.others.now) (sym c.new-rows.ensures.items)
    (folded_first c.args.parts.now c.in-Some.others.now c.in-Some.first.now c.of-last.result c.requires c.in-Some.ensures.cases.0
    c.of-last.ensures)

pub parts-preserved : goal.parts-preserved
parts-preserved c =
    folded_more c.args.parts.now c.parts.rows.items c.parts.rest.now c.in-Some-split_first.others.now c.parts.last
    c.in-Some-split_first.part.now c.add_part.new.rows.items c.in_ok-last.last c.in-Some-split_first.ensures.cases.0 c.in_ok-last.ensures
    c.parts.invariant

pub returns : goal.returns
returns c =
    folded_all c.args.parts.now c.parts.rows.items c.push.new.self.items c.parts.last c.parts.rest.now
    (nil_from_length c.parts.rest.now c.in_default-split_first.ensures.cases) c.in_ok-push.ensures.items c.parts.invariant
