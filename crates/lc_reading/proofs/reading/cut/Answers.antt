use Rattle.std.proofs.Common.{◌≡◌, ◌∙◌, ℕ, ap, slice_get, true}
use Rattle.lc_reading.specs.TextFaults.{is_brace}
use Rattle.lc_reading.specs.declared.read_fault.NoReport.TheVariants as why
use Rattle.lc_reading.specs.declared.read_fault.ReadFault.TheVariants as fault
use Rattle.lc_reading.proofs.TextFaults.{not_utf8}
use Rattle.lc_reading.proofs.reading.cut.Goals as goal

pub returns-in-Err-clause-refused : goal.returns-in-Err-clause-refused
returns-in-Err-clause-refused c =
    let opens : true ≡ is_brace (slice_get c.args.text.now c.in-Some.begin) = cc in
    not_utf8 c.args.text.now _ c.args.start c.in-Some.begin _ _ c.no_object-in-Err.result c.in-Some.ensures opens
    c.split_at.ensures.front c.in-Err.ensures.cases.0 (c.valid_up_to.ensures ∙ c.in-Err.ensures.valid_len)
    (c.no_object-in-Err.ensures ∙ ap (λ (k : ℕ). fault.NoReport (why.NoObject k)) c.saturating_add-in-Err.ensures)
