use Rattle.std.proofs.Common.{ℕ, List, Ok, subst, option_map}
use Rattle.lc_glob.specs.Path.{path_in}
use Rattle.lc_level.specs.{EntryLooks.has_file, RuleReads.MayGive}
use Rattle.lc_level.proofs.level_reader.LevelReader.read_pair.Goals as goal

pub returns-clause-read : goal.returns-clause-read
returns-clause-read g c =
    let first = c.in-Ok.ensures.read in
    let second = c.in-Ok-attribute_file.ensures.read in (
      record { rules = first.0; attributes = second.0 },
      record { files = record { rules = first.1; attributes = second.1 }; text = first.2 },
      record {
        rules_given = first.3;
        attributes_given =
            subst (λ (d : List ℕ). MayGive (g.T.Tree.gives c.args.self.now.tree.now (path_in d c.args.names.attributes.name.now))
            (has_file c.args.names.attributes.name.now c.args.listing.now) (option_map Ok second.0))
            c.in-Ok.ensures.same second.2;
      },
    )
