-- What definitions see of a `Reason` and of a `ReasonRef`.
use Rattle.lc_level.specs.Level.{Reason, named_git, by_rule, by_attribute, not_included, other_kind}
use Rattle.lc_level.specs.declared.reason.{Reason.Reason as OwnedReason, ReasonRef.ReasonRef}
use Rattle.lc_level.specs.declared.reason.Reason.TheVariants as owned
use Rattle.lc_level.specs.declared.reason.ReasonRef.TheVariants as lent

abbrev pub reason_model : OwnedReason → Reason
reason_model owned.Git = named_git
reason_model (owned.Rule source line) = by_rule source line
reason_model (owned.Attribute name) = by_attribute name.items
reason_model owned.NotIncluded = not_included
reason_model (owned.OtherKind what) = other_kind what

abbrev pub reason_ref_model : ReasonRef → Reason
reason_ref_model lent.Git = named_git
reason_ref_model (lent.Rule source line) = by_rule source line
reason_ref_model (lent.Attribute name) = by_attribute name.now
reason_ref_model lent.NotIncluded = not_included
reason_ref_model (lent.OtherKind what) = other_kind what
