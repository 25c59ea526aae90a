use Rattle.lc_glob.proofs.path_segment.ByteTests.add.Goals as goal

pub returns : goal.returns
returns c = c.saturating_add-self.ensures
