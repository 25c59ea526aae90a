use Rattle.std.proofs.Common.{refl, sym, ◌∙◌, ap}
use Rattle.std.specs.Option.{option_copied}
use Rattle.lc_reports.proofs.columns.refuse_columns.Goals as goal

pub returns-in-Some : goal.returns-in-Some
returns-in-Some c = record {
  part = c.in-Some.part.now;
  first = sym c.first_lacking.ensures ∙ ap option_copied c.in-Some.is;
  named = refl;
  lacks = c.lacking.ensures;
}
