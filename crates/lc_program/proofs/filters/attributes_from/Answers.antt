use Rattle.std.proofs.Common.{◌∙◌, true, ap}
use Rattle.lc_rules.specs.AttrLines.{attribute_file_of}
use Rattle.lc_program.proofs.filters.attributes_from.Goals as goal

pub returns-in_ok-attribute_file-in-Ok-clause-read : goal.returns-in_ok-attribute_file-in-Ok-clause-read
returns-in_ok-attribute_file-in-Ok-clause-read g c =
    rw c.in-Some.is (
      c.in-Ok.bytes,
      c.in-Ok.ensures,
      c.in_ok-attribute_file-in-Ok.ensures ∙ ap (attribute_file_of true) c.deref-in-Ok.ensures.value,
    )
