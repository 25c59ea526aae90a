-- The laws of opening a directory and counting its files.
use Rattle.std.specs.Prelude.{◌≡◌, ℕ, Bool, false, List}
use Rattle.lc_tree.specs.Trees.{Listings, Contents}
use Rattle.lc_level.specs.{Answers.Answers, CountedNames.IsCounted, Deep.has_too_deep, Job.JobModel, Classified.bytes_of}
use Rattle.lc_level.specs.{Level.{FileLineModel, LevelParts, IsLevelOf, level}, Opens.IsOpened, Filters.FiltersModel}
use Rattle.lc_level.specs.{WellFormed.IsWellFormed, TreeAnswers.MayAnswer, declared.counting.CountedFiles.CountedFiles}
use Rattle.lc_level.specs.{declared.opening.Opened.Opened, FaultLines.FaultLineModel}

-- the parts of the level of a directory that was opened, with these counted files and these errors of absent paths and of files
abbrev pub parts_with : Opened → List FileLineModel → List FaultLineModel → LevelParts
parts_with o files faults = record {
  files = files;
  faults = faults;
  children = o.children.items;
  skipped = o.skipped.items;
  entries = o.entries;
}

module _ (lists : List ℕ → Listings) (gives : List ℕ → Contents) where
  -- if a directory was opened and its files were counted, the tree may give answers by which all that was found is the directory's level,
  -- and none of its entries is too deep
  abbrev pub CountedLaw : Type 0
  CountedLaw =
      (left_out : Bool) (f : FiltersModel) (j : JobModel) (o : Opened) (found : CountedFiles) →
      IsOpened lists gives left_out f j o → IsCounted gives f o.job (bytes_of o.files.items) o.absent.items found →
      (a : Answers) × MayAnswer lists gives j.path a × IsWellFormed a
      × IsLevelOf (level f j a) left_out (parts_with o found.files.items found.faults.items) × (has_too_deep f j a ≡ false)

  -- if a directory was opened, all that was found is that of its level, except for its files and errors, whatever its files give
  abbrev pub OpenedLaw : Type 0
  OpenedLaw =
      (left_out : Bool) (f : FiltersModel) (j : JobModel) (o : Opened) (c : IsOpened lists gives left_out f j o) →
      (files : List FileLineModel) × (faults : List FaultLineModel)
      × IsLevelOf (level f j c.inside.answers) left_out (parts_with o files faults)
