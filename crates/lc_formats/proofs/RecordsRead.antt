-- A reader of CSV gives back the records of a section.
use Rattle.std.proofs.{Common.{◌≡◌, ℕ, ◌<◌, List, [], ◌∷◌, length, map, refl, sym, arith}, lemmas.List.Elements.{All-head, All-tail}}
use Rattle.std.specs.List.{All, flat_map}
use Rattle.csv.proofs.RoundTrip.{read-write}
use Rattle.csv.specs.{Machine.next_record, Reading.{AreRecords, Reached, default_config}, Writing.read_back}
use Rattle.csv.specs.declared.parser.State.TheVariants.{StartRecord}
use Rattle.lc_sheet.specs.{Sheets.SectionModel, Values.ValueModel}
use Rattle.lc_formats.specs.{Csv.{csv_section, field_of, header_field, records_of}, CsvLaws.{HasColumns, RecordsLaw}, CsvText.record_text}

-- a record that has a field reads back as it is
whole : {X : Type 0} (field : X → List ℕ) (xs : List X) → 0 < length xs → read_back (map field xs) ≡ map field xs
whole field [] some = absurd (omega arith)
whole field (x ∷ xs) some = refl

reached : (n : ℕ) → 0 < n → (lines : List (List ValueModel)) → All (λ (values : List ValueModel). length values ≡ n) lines
    → Reached default_config StartRecord (flat_map record_text (map (map field_of) lines)) (map (map field_of) lines) StartRecord []
unfolding Reached
reached n some [] even = (refl, refl)
reached n some (values ∷ lines) even =
    let rest = flat_map record_text (map (map field_of) lines) in
    let same : length values ≡ n = All-head (λ (v : List ValueModel). length v ≡ n) values lines even in (
      (read_back (map field_of values), StartRecord, rest),
      read-write (map field_of values) rest,
      sym (whole field_of values (omega arith)),
      reached n some lines (All-tail (λ (v : List ValueModel). length v ≡ n) values lines even),
    )

-- the names of the columns, and a record for each line
section_read : (s : SectionModel) → HasColumns s
    → AreRecords default_config StartRecord (flat_map record_text (records_of s)) (records_of s)
unfolding Reached next_record
section_read s has =
    let names = map (header_field s.attributes) s.columns in
    let rest = flat_map record_text (map (map field_of) s.lines) in (
      StartRecord,
      [],
      (
        (read_back names, StartRecord, rest),
        read-write names rest,
        sym (whole (header_field s.attributes) s.columns has.some),
        reached (length s.columns) has.some s.lines has.each,
      ),
      refl,
    )

pub records_law : RecordsLaw
records_law s = section_read (csv_section s)
