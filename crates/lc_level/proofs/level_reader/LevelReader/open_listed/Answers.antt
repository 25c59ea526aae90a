use Rattle.std.proofs.Common.{rules, ap, arith, subst, sym, ◌∙◌}
use Rattle.lc_level.specs.{Filters.FiltersModel, Narrowing.selection_in}
use Rattle.lc_level.proofs.OpenLevels.{part_by, absent_by, are_listed, few, classify_refused, opened}
use Rattle.lc_tree.specs.Listing.{IsListing}
use Rattle.lc_level.proofs.level_reader.LevelReader.open_listed.Goals as goal

pub absent-requires : goal.absent-requires
absent-requires g c =
    subst IsListing (sym c.deref.ensures.value)
    (are_listed (g.T.Tree.lists c.args.self.now.tree.now) (g.T.Tree.gives c.args.self.now.tree.now) c.args.self.now.options.left_out
    c.args.self.now.filters.now c.args.job.now c.args.self.now.options.texts c.in_ok-job.field-0 c.in_ok-job.ensures.enters)

pub overflow_cast-number : goal.overflow_cast-number
overflow_cast-number g c =
    let s = c.args.self.now.filters.now in
    let wanted = c.in-Ok.ensures ∙ ap (λ (f : FiltersModel). selection_in f.only c.path.result.now) c.filters.view_is in
    let part = part_by s c.in_ok-job.field-0 _ _ wanted c.path.ensures c.in-Ok-part_of.entries.items c.in-Ok-part_of.ensures in
    omega (
      arith,
      c.len-number.ensures,
      few (g.T.Tree.lists c.args.self.now.tree.now) (g.T.Tree.gives c.args.self.now.tree.now) c.args.self.now.options.left_out s
          c.args.job.now c.args.self.now.options.texts c.in_ok-job.field-0 c.in_ok-job.ensures.enters c.in-Ok-part_of.entries.items part,
    )

pub returns-in-Ok-classify_all-clause-opens : goal.returns-in-Ok-classify_all-clause-opens
returns-in-Ok-classify_all-clause-opens g c =
    let s = c.args.self.now.filters.now in
    let wanted = c.in-Ok.ensures ∙ ap (λ (f : FiltersModel). selection_in f.only c.path.result.now) c.filters.view_is in
    let part = part_by s c.in_ok-job.field-0 _ _ wanted c.path.ensures c.in-Ok-part_of.entries.items c.in-Ok-part_of.ensures in
    let absent = absent_by s c.in_ok-job.field-0 _ _ wanted c.path.ensures c.in-Ok-absent.absent.items _ c.deref.ensures.value
    c.in-Ok-absent.ensures in
    opened (g.T.Tree.lists c.args.self.now.tree.now) (g.T.Tree.gives c.args.self.now.tree.now) c.args.self.now.options.left_out s
    c.args.job.now c.args.self.now.options.texts c.in_ok-job.field-0 c.in_ok-job.ensures.enters c.in-Ok-part_of.entries.items part
    c.in-Ok-classify_all.found c.in-Ok-absent.absent c.len-number.result absent (search rules) c.in-Ok-classify_all.ensures.all

pub returns-in-Err-clause-opens : goal.returns-in-Err-clause-opens
returns-in-Err-clause-opens g c =
    let s = c.args.self.now.filters.now in
    let wanted = c.in-Ok.ensures ∙ ap (λ (f : FiltersModel). selection_in f.only c.path.result.now) c.filters.view_is in
    let part = part_by s c.in_ok-job.field-0 _ _ wanted c.path.ensures c.in-Ok-part_of.entries.items c.in-Ok-part_of.ensures in
    classify_refused (g.T.Tree.lists c.args.self.now.tree.now) (g.T.Tree.gives c.args.self.now.tree.now) c.args.self.now.options.left_out s
    c.args.job.now c.args.self.now.options.texts c.in_ok-job.field-0 c.in_ok-job.ensures.enters c.in-Ok-part_of.entries.items part
    c.in-Err.fault c.in-Err.ensures.all
