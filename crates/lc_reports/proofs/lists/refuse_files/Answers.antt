use Rattle.std.proofs.Common.{refl, sym, ◌∙◌, ap}
use Rattle.std.specs.Option.{option_copied}
use Rattle.lc_reports.proofs.lists.refuse_files.Goals as goal

pub returns-in-Some : goal.returns-in-Some
returns-in-Some c = (
  c.if-needs.true,
  record {
    part = c.in-Some.part.now;
    first = sym c.first_without_files.ensures ∙ ap option_copied c.in-Some.is;
    named = refl;
  },
)
