use Rattle.std.proofs.Common.{◌∙◌, ap, List, ℕ, subst, sym}
use Rattle.lc_glob.specs.Pieces.{pieces_left, pieces_of}
use Rattle.lc_sheet.specs.declared.table_options.Columns.{Columns}
use Rattle.lc_arguments.specs.{TableWords.{IsKeyAfter, IsNoKeyAfter}, Texts.comma}
use Rattle.lc_arguments.proofs.ColumnNames.{StillNames, all_named, joins, refuses}
use Rattle.lc_arguments.proofs.table.columns_named.Goals as goal

pub returns-in_default-key_added : goal.returns-in_default-key_added
returns-in_default-key_added c d =
    let all = pieces_of comma c.args.names.now in
    refuses c.args.depth c.names.columns d c.cut_at_first.result.0.now (pieces_left comma c.cut_at_first.result.1) all
    (subst (λ (most : ℕ). IsNoKeyAfter most c.names.columns c.cut_at_first.result.0.now (pieces_left comma c.cut_at_first.result.1))
    c.max_columns-most.ensures c.in_default-key_added.ensures)
    (subst (λ (l : List (List ℕ)). StillNames c.args.depth c.names.columns l all)
    (ap (pieces_left comma) c.in-Some.is ∙ c.cut_at_first.ensures.pieces) c.names.invariant)

pub names-preserved : goal.names-preserved
names-preserved c =
    let all = pieces_of comma c.args.names.now in
    let left = pieces_left comma c.cut_at_first.result.1 in
    subst (λ (d : Columns). StillNames c.args.depth d left all) (sym c.with-columns.ensures)
    (joins c.args.depth c.names.columns c.in-Some-key_added.key c.cut_at_first.result.0.now left all
    (subst (λ (most : ℕ). IsKeyAfter most c.names.columns c.cut_at_first.result.0.now left c.in-Some-key_added.key)
    c.max_columns-most.ensures c.in-Some-key_added.ensures)
    (subst (λ (l : List (List ℕ)). StillNames c.args.depth c.names.columns l all)
    (ap (pieces_left comma) c.in-Some.is ∙ c.cut_at_first.ensures.pieces) c.names.invariant))

pub returns : goal.returns
returns c =
    let all = pieces_of comma c.args.names.now in
    all_named c.args.depth c.names.columns all
    (subst (λ (l : List (List ℕ)). StillNames c.args.depth c.names.columns l all)
    (ap (pieces_left comma) c.in_default.is) c.names.invariant)
