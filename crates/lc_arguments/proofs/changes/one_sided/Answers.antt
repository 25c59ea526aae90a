use Rattle.std.proofs.Common.{◌≡◌, ℕ, false, List, Result, Ok, Err, codes, inl, inr, refl, sym}
use Rattle.std.specs.List.{list_any}
use Rattle.clap.specs.{Matches.found_of, Walk.{Row, rows_of}}
use Rattle.lc_arguments.specs.{ConditionWords.compares_sides, Explained.{AnswersOneSided, AnswersWhere}, Words.conditions_read}
use Rattle.lc_arguments.specs.declared.{conditions.Where.Where, request.ParseExit.ParseExit}
use Rattle.lc_arguments.proofs.{Misnaming.{refused_for, refused_with}, WordFaults.texts_of}
use Rattle.lc_arguments.proofs.changes.one_sided.Goals as goal

on_one_side : (rows : List Row) (texts : List (List ℕ)) (answer : Result Where ParseExit) → texts ≡ conditions_read rows
    → false ≡ list_any compares_sides texts → AnswersWhere rows answer → AnswersOneSided rows answer
on_one_side rows texts (Ok chosen) is none read = (read, sym (rw is at none))
on_one_side rows texts (Err why) is none read = refused_with _ _ why inr read

pub returns-in-None : goal.returns-in-None
returns-in-None c =
    let f = found_of c.args.matches.now in
    on_one_side _ _ c.read.result
    (texts_of (rows_of f) f (codes "where") c.get_strs.result _ c.unwrap_or.result refl c.get_strs.ensures refl c.unwrap_or.ensures)
    (rw c.in-None.is at c.first_compared.ensures) c.read.ensures

pub returns-in-Some : goal.returns-in-Some
returns-in-Some c =
    let f = found_of c.args.matches.now in
    refused_for _ c.refused.result c.refused.ensures (inl
    (rw (sym (texts_of (rows_of f) f (codes "where") c.get_strs.result _ c.unwrap_or.result refl c.get_strs.ensures refl
    c.unwrap_or.ensures)) (sym (rw c.in-Some.is at c.first_compared.ensures))))
