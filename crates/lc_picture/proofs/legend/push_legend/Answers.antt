use Rattle.std.proofs.Common.{◌≡◌, ◌+◌, ◌<◌, ◌++◌, ℕ, List, length, drop, get_or, sym, ap, ◌∙◌}
use Rattle.lc_rows.specs.RowKeys.{ShownRowModel}
use Rattle.lc_sheet.specs.declared.column.Number.{Number}
use Rattle.lc_picture.specs.{Legend.{legend_entry, legend_from}, Pieces.text_of}
use Rattle.lc_picture.proofs.{Steps.one_on, Texts.more}
use Rattle.lc_picture.proofs.legend.push_legend.Goals as goal

-- behind an extension come those after it
one_entry_more : (by : Number) (colour : ℕ) (t0 t1 all : List ℕ) (r d : ShownRowModel) (rs : List ShownRowModel) → colour < length rs
    → r ≡ get_or rs colour d → t1 ≡ t0 ++ text_of (legend_entry by colour r)
    → t0 ++ text_of (legend_from by colour (drop colour rs)) ≡ all
    → t1 ++ text_of (legend_from by (colour + 1) (drop (colour + 1) rs)) ≡ all
one_entry_more by colour t0 t1 all r d rs inside is e same =
    more t0 t1 all (legend_entry by colour r) (legend_from by (colour + 1) (drop (colour + 1) rs)) e
    (ap (λ (xs : List ShownRowModel). t0 ++ text_of (legend_from by colour xs)) (sym (one_on r d rs colour inside is)) ∙ same)

pub loop-colour-preserved : goal.loop-colour-preserved
loop-colour-preserved c =
    one_entry_more c.args.by c.loop-colour.colour c.loop-colour.text.items c.push_entry.new.text.items _ c.index-first-colour.result _ _
    c.loop-colour-test.true c.index-first-colour.is c.in_ok-push_entry.ensures c.loop-colour.invariant
