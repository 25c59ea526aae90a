use Rattle.lc_arguments.proofs.request.request_in.Goals as goal

pub returns-in-Count : goal.returns-in-Count
returns-in-Count c = rw c.in-Count.is c.request_in.ensures

pub returns-in-Diff : goal.returns-in-Diff
returns-in-Diff c = rw c.in-Diff.is c.request_in-in-Diff.ensures

pub returns-in-Explain : goal.returns-in-Explain
returns-in-Explain c = rw c.in-Explain.is c.request_in-in-Explain.ensures
