-- Where a walk begins.
use Rattle.std.specs.Prelude.{[], None, option_map}
use Rattle.lc_rules.specs.IgnoreRules.{rules_of}
use Rattle.lc_level.specs.{Filters.FiltersModel, Job.JobModel}

-- the job of the top, whose only rules are those that these filters set for the whole tree
abbrev pub top_job : FiltersModel → JobModel
top_job f = record {
  path = [];
  ignore = record {
    exclude = option_map rules_of f.exclude_from;
    info = None;
    tree = [];
    command_line = option_map rules_of f.exclude;
    no_ignore = f.no_ignore;
  };
  attributes = record { lowest = f.attributes_from; tree = []; info = None };
}
