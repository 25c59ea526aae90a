use Rattle.lc_program.proofs.answering.answer.Goals as goal

pub returns-in-Sum : goal.returns-in-Sum
returns-in-Sum g c = rw c.in-Sum.is (rw c.format.ensures at c.sum.ensures)

pub returns-in-Diff : goal.returns-in-Diff
returns-in-Diff g c = rw c.in-Diff.is (rw c.format-in-Diff.ensures at c.compare.ensures)
