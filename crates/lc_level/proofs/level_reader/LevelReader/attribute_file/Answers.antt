use Rattle.std.proofs.Common.{◌≡◌, true, Some, ap, ◌∙◌}
use Rattle.lc_glob.specs.Path.{path_in}
use Rattle.lc_rules.specs.AttrLines.{attribute_file_of}
use Rattle.lc_level.specs.EntryLooks.{has_file}
use Rattle.lc_level.proofs.RuleParsing.{read_there}
use Rattle.lc_level.proofs.level_reader.LevelReader.attribute_file.Goals as goal

pub returns-in-Ok-new-clause-read : goal.returns-in-Ok-new-clause-read
returns-in-Ok-new-clause-read g c =
    let bytes = c.read_named.new.scratch.rules.items in
    let found : c.in_ok-read_named.field-0 ≡ true = cc in (
      Some bytes,
      ap Some (c.in-Ok-new.ensures.ok ∙ c.in-Ok.ensures.ok ∙ ap (attribute_file_of c.args.top) c.deref-2.ensures.value),
      read_there (g.T.Tree.gives c.args.self.now.tree.now (path_in c.args.scratch.now.path.directory c.args.name.now))
          (has_file c.args.name.now c.args.listing.now)
          c.in_ok-read_named.field-0 bytes found c.in_ok-read_named.ensures.read,
    )
