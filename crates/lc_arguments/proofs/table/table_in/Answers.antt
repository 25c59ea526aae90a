use Rattle.std.proofs.Common.{ℕ, codes, refl, subst}
use Rattle.std.specs.Prelude.{Option}
use Rattle.clap.specs.{Matches.found_of, Walk.{first_of, rows_of}}
use Rattle.lc_arguments.specs.{Options.max_depth, TableWords.names_tree, Words.{AsksNoTable, IsTableAt}}
use Rattle.lc_arguments.specs.declared.table.TableRequest.{TableRequest}
use Rattle.lc_arguments.proofs.{ColumnNames.{depth_within, one_number}, Misnaming.{answers_table_as, refused_with}}
use Rattle.lc_arguments.proofs.WordFaults.{flag_of, text_of}
use Rattle.lc_arguments.proofs.table.table_in.Goals as goal

pub returns-in-Err : goal.returns-in-Err
returns-in-Err c = refused_with _ _ c.in-Err.no (λ none table is. none is.depth is.depth_is) c.in-Err.ensures

pub returns-in-Err-number_of : goal.returns-in-Err-number_of
returns-in-Err-number_of c = refused_with _ _ c.in-Err-number_of.no (λ none table is. none table.top is.top) c.in-Err-number_of.ensures

pub returns-in-Ok-table_of : goal.returns-in-Ok-table_of
returns-in-Ok-table_of c =
    let f = found_of c.args.matches.now in
    let rows = rows_of f in
    let depth = c.in-Ok.depth in
    let table = c.in-Ok-table_of.table in
    let at : IsTableAt rows depth table = rw c.in-Ok-table_of.is at (answers_table_as _ _ _ _ _ _ depth c.table_of.result
    (text_of rows f (codes "format") c.get_str-format.result refl c.get_str-format.ensures)
    (text_of rows f (codes "by") c.get_str-by.result refl c.get_str-by.ensures)
    (text_of rows f (codes "sort") c.get_str-sort.result refl c.get_str-sort.ensures) c.table_of.ensures) in
    record {
      plain = record {
        within = depth_within (names_tree (first_of (codes "format") rows)) depth table.by _ _ at.by_is c.in-Ok.ensures;
        named = record {
          depth = depth;
          depth_is = c.in-Ok.ensures;
          at = record { format_is = at.format_is; by_is = at.by_is; levels_is = at.levels_is; sort_is = at.sort_is };
          top = c.in-Ok-number_of.ensures;
        };
        files = flag_of rows f (codes "files") c.get_flag.result refl c.get_flag.ensures.value c.get_flag.ensures.other;
      };
      share = flag_of rows f (codes "share") c.get_flag-in-Ok-table_of.result refl c.get_flag-in-Ok-table_of.ensures.value c.get_flag-in-Ok-table_of.ensures.other;
    }

pub returns-in-Err-table_of : goal.returns-in-Err-table_of
returns-in-Err-table_of c =
    let f = found_of c.args.matches.now in
    let rows = rows_of f in
    let depth = c.in-Ok.depth in
    refused_with ((table : TableRequest) → ¬ IsTableAt rows depth table) (AsksNoTable rows) c.in-Err-table_of.no
    (λ none table is.
    none table (subst (λ (d : Option ℕ). IsTableAt rows d table) (one_number max_depth _ is.depth depth is.depth_is c.in-Ok.ensures) is.at))
    (rw c.in-Err-table_of.is at (answers_table_as _ _ _ _ _ _ depth c.table_of.result
    (text_of rows f (codes "format") c.get_str-format.result refl c.get_str-format.ensures)
    (text_of rows f (codes "by") c.get_str-by.result refl c.get_str-by.ensures)
    (text_of rows f (codes "sort") c.get_str-sort.result refl c.get_str-sort.ensures) c.table_of.ensures))
