use Rattle.std.proofs.Common.{◌∙◌, ap, sym, bytes_eq, option_map}
use Rattle.lc_level.specs.Reasons.{reason_ref_model}
use Rattle.lc_level.proofs.Ignoring.{by_kind}
use Rattle.lc_level.proofs.level_reader.LevelReader.reason.Goals as goal

pub returns-in-Other : goal.returns-in-Other
returns-in-Other g c =
    by_kind c.args.self.now.filters.now c.args.job.now c.args.name.now c.args.path.now c.args.kind c.in-Other.what c.is_dir.result
    c.in-Other.is (c.if-eq.ensures ∙ ap (bytes_eq c.args.name.now) c.as_slice.ensures) c.requires c.is_dir.ensures
    (ap (option_map reason_ref_model) (sym c.in_default.is) ∙ c.in_ok-reason.ensures)
