use Rattle.std.proofs.Common.{◌∙◌, Ok, ap, inl, sym}
use Rattle.lc_program.proofs.Loading.{fault_replied}
use Rattle.lc_program.specs.Replies.{checked}
use Rattle.lc_program.proofs.checking.check_file.Goals as goal

pub returns-in_err-check_explained : goal.returns-in_err-check_explained
returns-in_err-check_explained g c =
    rw (c.if-asked.true) (inl (
      _,
      c.in_ok-text.ensures,
      c.check_explained.result,
      fault_replied c.from_residual-in_err-check_explained.result c.check_explained.result c.in_err-check_explained.field-0.0
          c.from_residual-in_err-check_explained.ensures.1 c.in_err-check_explained.was,
      rw (c.as_bytes.ensures.value, c.path_end.ensures) at c.check_explained.ensures,
    ))

pub returns-in_err-check : goal.returns-in_err-check
returns-in_err-check g c =
    rw (c.if-asked.false) (inl (
      _,
      c.in_ok-text.ensures,
      c.check.result,
      fault_replied c.from_residual-in_err-check.result c.check.result c.in_err-check.field-0.0 c.from_residual-in_err-check.ensures.1
          c.in_err-check.was,
      rw (c.rules.ensures, c.path_end.ensures) at c.check.ensures,
    ))

pub returns-then-asked : goal.returns-then-asked
returns-then-asked g c =
    rw (c.if-asked.true) (inl (
      _,
      c.in_ok-text.ensures,
      c.check_explained.result,
      ap Ok c.clean.ensures ∙ sym (ap checked c.in_ok-check_explained.was),
      rw (c.as_bytes.ensures.value, c.path_end.ensures) at c.check_explained.ensures,
    ))

pub returns : goal.returns
returns g c =
    rw (c.if-asked.false) (inl (
      _,
      c.in_ok-text.ensures,
      c.check.result,
      ap Ok c.clean-2.ensures ∙ sym (ap checked c.in_ok-check.was),
      rw (c.rules.ensures, c.path_end.ensures) at c.check.ensures,
    ))
