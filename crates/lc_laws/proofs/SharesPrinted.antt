-- Shares are printed as no more than 100.0 per cent.
use Rattle.std.proofs.{Common.{arith, ℕ, List, refl}, lemmas.Grind.common_steps}
use Rattle.lc_formats.proofs.ShareLawProofs.{parts_law}
use Rattle.lc_formats.specs.Shares.{rounded_parts}
use Rattle.lc_rows.proofs.WalkedSheets.{walked_sheet_law}
use Rattle.lc_rows.specs.SheetLaws.{IsSectionWithin, IsWithin}
use Rattle.lc_sheet.specs.{Sheets.SectionModel, Values.{ValueModel, share}}
use Rattle.lc_tree.specs.Trees.{Listings, Contents}
use Rattle.lc_laws.specs.PrintedShares.{AreSharesWithin, IsPrintedWithin, PrintedSharesLaw}

value_printed : (v : ValueModel) → IsWithin v → IsPrintedWithin v
value_printed (share part whole) within = (rounded_parts 1000 part whole, parts_law 1000 part whole within, refl)
value_printed v within = tt

section_printed : (section : SectionModel) → IsSectionWithin section → AreSharesWithin section
section_printed section within = grind (arith, common_steps, value_printed)

pub printed_shares_law : (lists : List ℕ → Listings) (gives : List ℕ → Contents) → PrintedSharesLaw lists gives
printed_shares_law lists gives o options attributes r s w listed sheet =
    let shares = (walked_sheet_law lists gives o options attributes r s w listed sheet).shares in record {
      rows = section_printed s.rows shares.rows;
      others = section_printed s.others shares.others;
      totals = section_printed s.totals shares.totals;
    }
