use Rattle.std.proofs.Common.{rules, string_bytes}
use Rattle.lc_program.proofs.counting.count_lines.Goals as goal

pub returns : goal.returns
returns g c =
    let told = c.in_ok-told.ensures in
    let meant = c.in_ok-meant.ensures in
    let unmatched = c.in_ok-unmatched.ensures in
    let patterns = c.deref-3.ensures.value in
    record {
      unread = string_bytes c.in_ok-unread.unread;
      are_unread = rw (c.deref.ensures.value, c.output-output.ensures, c.format.ensures, c.deref-2.ensures.value) at
          c.in_ok-unread.ensures;
      remarks = string_bytes c.in_ok-options.options;
      are_remarks = c.in_ok-options.ensures;
      hint = string_bytes c.in_ok-hint.hint;
      is_hint = rw c.deref-4.ensures.value at c.in_ok-hint.ensures;
      are = search (rules, told, meant, unmatched, patterns);
    }
