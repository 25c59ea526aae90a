use Rattle.std.proofs.Common.{◌≡◌, ◌≤◌, ◌+◌, ◌*◌, ◌-◌, ◌^◌, ◌++◌, length}
use Rattle.lc_walk.specs.Assembled.{directories_in_rows, entries_in_rows, files_in_rows, faults_in_rows, skipped_in_rows}
use Rattle.lc_walk.proofs.report.row_lines.findings_of.Given as goal

abbrev pub invariant-rows : goal.invariant-rows
invariant-rows l = record {
  directories : l.found.directories + length (directories_in_rows l.rest) ≡ length (directories_in_rows l.rows);
  entries : l.found.entries + entries_in_rows l.rest ≡ entries_in_rows l.rows;
  files : l.found.files.items ++ files_in_rows l.rest ≡ files_in_rows l.rows;
  faults : l.found.faults.items ++ faults_in_rows l.rest ≡ faults_in_rows l.rows;
  skipped : l.found.skipped.items ++ skipped_in_rows l.rest ≡ skipped_in_rows l.rows;
  few : l.found.directories + length l.rest ≤ length l.rows;
  few_entries : l.found.entries + length l.rest * (2 ^ 32 - 1) ≤ length l.rows * (2 ^ 32 - 1);
}

abbrev pub decreases-rows : goal.decreases-rows
decreases-rows l = length l.rest
