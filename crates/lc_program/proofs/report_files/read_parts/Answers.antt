use Rattle.std.proofs.Common.{◌≡◌, true, ℕ, List, inl, inr, subst, sym}
use Rattle.std.specs.List.{list_all}
use Rattle.json.specs.Word.{is_space}
use Rattle.lc_program.proofs.ReportsRead.{same_error}
use Rattle.lc_program.proofs.report_files.read_parts.Goals as goal

pub returns-in-Err-read_reports-clause-refused : goal.returns-in-Err-read_reports-clause-refused
returns-in-Err-read_reports-clause-refused g c =
    inl (inr (
      c.in-Ok.text,
      c.in-Ok.ensures,
      (
        c.in-Err-read_reports.fault,
        λ blank. same_error _ _ _ c.in-Err-read_reports.is
            (c.read_reports.ensures.empty (subst (λ (t : List ℕ). list_all is_space t ≡ true) (sym c.deref.ensures.value) blank)),
        rw (c.as_bytes.ensures.value, c.origin_of-name.ensures) at c.cause_of_refusal.ensures,
      ),
    ))

pub returns-clause-parts : goal.returns-clause-parts
returns-clause-parts g c = (
  c.in-Ok.text,
  c.in-Ok.ensures,
  (
    c.in-Ok-read_reports.given.items,
    rw c.deref.ensures.value at c.in-Ok-read_reports.ensures.reports,
    c.in_ok-parts.ensures,
  ),
)
