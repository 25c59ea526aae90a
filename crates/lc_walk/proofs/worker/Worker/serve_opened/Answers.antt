use Rattle.std.proofs.Common.{map, ◌≡◌, Ok, ap, ◌∙◌}
use Rattle.lc_level.specs.{CountedNames.IsCounted, Classified.bytes_of}
use Rattle.lc_walk.specs.{Serving.AddsFiles, RowViews.ListedRowModel, FoundReports.tallied, WalkOptions.asked_by}
use Rattle.lc_walk.proofs.RowEnds.{serves_refused, serves_uncounted, serves_listed}
use Rattle.lc_walk.proofs.worker.Worker.serve_opened.Goals as goal

pub returns-in-Err-clause-serves : goal.returns-in-Err-clause-serves
returns-in-Err-clause-serves g c =
    let ask = asked_by c.args.self.now.options.now in
    let lists = g.T.Tree.lists c.args.self.now.reader.tree.now in
    let gives = g.T.Tree.gives c.args.self.now.reader.tree.now in
    rw c.break_off.ensures.mine
    (serves_refused ask lists gives _ _ c.args.job c.args.opened c.requires.pass.1 c.requires.opened
    c.in-Err.cause c.args.tally.now c.break_off.result c.in-Err.ensures.posts c.break_off.ensures.memory)

pub returns-in_default-clause-serves : goal.returns-in_default-clause-serves
returns-in_default-clause-serves g c =
    let ask = asked_by c.args.self.now.options.now in
    let lists = g.T.Tree.lists c.args.self.now.reader.tree.now in
    let gives = g.T.Tree.gives c.args.self.now.reader.tree.now in
    rw c.break_off-in_default.ensures.mine
    (serves_uncounted ask lists gives _ _ c.args.job c.args.opened c.requires.pass.1 c.requires.opened
    c.args.tally.now c.args.tally.now c.break_off-in_default.result c.in-Ok.ensures.posts.0 c.break_off-in_default.ensures.memory)

pub returns-in_default-add_files-clause-serves : goal.returns-in_default-add_files-clause-serves
returns-in_default-add_files-clause-serves g c =
    let ask = asked_by c.args.self.now.options.now in
    let lists = g.T.Tree.lists c.args.self.now.reader.tree.now in
    let gives = g.T.Tree.gives c.args.self.now.reader.tree.now in
    rw c.break_off-in_default-add_files.ensures.mine
    (serves_uncounted ask lists gives _ _ c.args.job c.args.opened c.requires.pass.1 c.requires.opened
    c.args.tally.now c.add_files.new.tally c.break_off-in_default-add_files.result c.in-Ok.ensures.posts.0
    c.break_off-in_default-add_files.ensures.memory)

pub returns-in-Ok-new-clause-serves : goal.returns-in-Ok-new-clause-serves
returns-in-Ok-new-clause-serves g c =
    let ask = asked_by c.args.self.now.options.now in
    let lists = g.T.Tree.lists c.args.self.now.reader.tree.now in
    let gives = g.T.Tree.gives c.args.self.now.reader.tree.now in
    let counted : IsCounted gives ask.filters c.args.opened.job (bytes_of c.args.opened.files.items)
    c.args.opened.absent.items c.in-Ok-count_divided.found = rw c.args.self.now.selects at c.in-Ok-count_divided.ensures in
    let added : AddsFiles (map tallied c.in-Ok-count_divided.found.files.items) c.args.tally.now c.add_files.new.tally (Ok tt) = rw
    c.deref.ensures.value at c.in-Ok-add_files.ensures in
    let row : c.in-Ok-new.row ≡ _ = c.in-Ok-new.ensures.row in
    rw c.give.ensures.mine
    (serves_listed ask lists gives _ _ c.args.job c.args.opened c.requires.pass.1 c.requires.opened
    c.in-Ok-count_divided.found c.args.tally.now c.add_files.new.tally c.in-Ok-new.row c.in-Ok.ensures.posts.0 counted added
    (record {
      job = ap (λ (r : ListedRowModel). r.job) row;
      entries = ap (λ (r : ListedRowModel). r.entries) row;
      files = ap (λ (r : ListedRowModel). r.files) row ∙ c.if_asked.ensures;
      faults = ap (λ (r : ListedRowModel). r.faults) row;
      skipped = ap (λ (r : ListedRowModel). r.skipped) row;
      children = ap (λ (r : ListedRowModel). r.children) row ∙ c.in-Ok.ensures.posts.1;
    }))

pub returns-clause-serves : goal.returns-clause-serves
returns-clause-serves g c =
    let ask = asked_by c.args.self.now.options.now in
    let lists = g.T.Tree.lists c.args.self.now.reader.tree.now in
    let gives = g.T.Tree.gives c.args.self.now.reader.tree.now in
    rw (c.break_off-in-Err-new.ensures.mine, c.in-Err-new.ensures.job)
    (serves_uncounted ask lists gives _ _ c.args.job c.args.opened c.requires.pass.1 c.requires.opened
    c.args.tally.now c.add_files.new.tally c.break_off-in-Err-new.result c.in-Ok.ensures.posts.0 c.break_off-in-Err-new.ensures.memory)
