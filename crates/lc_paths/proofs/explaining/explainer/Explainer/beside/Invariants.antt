use Rattle.std.proofs.Common.{◌≡◌, length}
use Rattle.lc_glob.specs.Path.{path_in, segments_of}
use Rattle.lc_paths.specs.Explanations.{Explained.said_beside, OpenDirs.DirStack}
use Rattle.lc_paths.proofs.explaining.explainer.Explainer.beside.Given as goal

abbrev pub invariant-names : goal.invariant-names
invariant-names g l = record {
  stands : l.path ≡ path_in l.job.path l.rest;
  same : (stack : DirStack) →
      said_beside l.self.reader.filters.now stack l.job (segments_of l.rest) l.as_dir
      ≡ said_beside l.self.reader.filters.now stack l.fn.job (segments_of l.fn.rest) l.as_dir;
}

abbrev pub decreases-names : goal.decreases-names
decreases-names g l = length l.rest
