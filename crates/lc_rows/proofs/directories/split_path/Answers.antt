use Rattle.std.proofs.Common.{◌∙◌}
use Rattle.lc_rows.proofs.PathCuts.{name_at, no_parent, parent_at, whole_name}
use Rattle.lc_rows.proofs.directories.split_path.Goals as goal

pub returns-in-None-clause-parent : goal.returns-in-None-clause-parent
returns-in-None-clause-parent c = no_parent c.args.path.now c.in-None.ensures

pub returns-in-None-clause-name : goal.returns-in-None-clause-name
returns-in-None-clause-name c = whole_name c.args.path.now c.in-None.ensures

pub returns-in-Some-clause-parent : goal.returns-in-Some-clause-parent
returns-in-Some-clause-parent c = c.directory_before.ensures ∙ parent_at c.args.path.now c.in-Some.place c.in-Some.ensures

pub returns-in-Some-clause-name : goal.returns-in-Some-clause-name
returns-in-Some-clause-name c = name_at c.args.path.now c.in-Some.place c.in-Some.ensures
