use Rattle.std.proofs.Common.{refl, sym, ◌∙◌, ap}
use Rattle.std.specs.Option.{option_copied}
use Rattle.lc_reports.proofs.lists.refuse_lists.Goals as goal

pub returns-in-Some : goal.returns-in-Some
returns-in-Some c = (
  c.in_ok-refuse_files.ensures,
  c.if-needs.true,
  record {
    part = c.in-Some.part.now;
    first = sym c.first_without_skipped.ensures ∙ ap option_copied c.in-Some.is;
    named = refl;
  },
)
