use Rattle.lc_paths.proofs.Explanations.Entering.{fault_entered, same_fault}
use Rattle.lc_paths.proofs.explaining.explainer.Explainer.enter.Goals as goal

pub returns-in-Err-Faulted : goal.returns-in-Err-Faulted
returns-in-Err-Faulted g c =
    let lists = g.T.Tree.lists c.args.self.now.reader.tree.now in
    let gives = g.T.Tree.gives c.args.self.now.reader.tree.now in
    let fault = c.in-Err-Faulted in
    let entered = rw fault.field-0-is at fault.ensures.enters in (
      same_fault lists gives c.args.job.now c.args.directory.now fault.site _ fault.word _ fault.site-is fault.word-is
          (fault_entered lists gives c.args.job.now c.args.self.now.reader.options.texts fault.site fault.word c.args.directory.now
          c.requires entered),
      c.kept.view_is,
    )
