-- A text of records (RFC 4180).
use Rattle.std.specs.{Prelude.{◌≡◌, ℕ, false, List, Vec}, Global.Global}
use Rattle.csv.specs.{Writing.{default_writer, fields_written, has_written, row_text, writer_setup}, declared.writer.Writer.Writer}

-- a record of these fields (RFC 4180), with a line feed at its end
abbrev pub record_text : List (List ℕ) → List ℕ
record_text fields = row_text default_writer fields

-- a writer of records that has finished one record and has not begun the next
pub record IsBetween (w : Writer (Vec ℕ Global)) : Type 0 where
  pub setup : writer_setup w ≡ default_writer
  pub fields : fields_written w ≡ 0
  pub wrote : has_written w ≡ false
