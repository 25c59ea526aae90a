use Rattle.std.proofs.Common.{◌++◌}
use Rattle.lc_sheet.specs.declared.column.Number.TheVariants.{Files, Lines, Blank, Bytes}
use Rattle.lc_picture.specs.Head.{figure}
use Rattle.lc_picture.proofs.Texts.{two_texts}
use Rattle.lc_picture.proofs.head.push_figures_of.Goals as goal

pub returns : goal.returns
returns g c =
    let t1 = c.push_figure.new.text.items in
    let t2 = c.push_figure-2.new.text.items in
    let t3 = c.push_figure-3.new.text.items in
    let t4 = c.push_figure-4.new.text.items in
    let lines = figure Lines c.first_number-2.result in
    let blank = figure Blank c.first_number-3.result in
    let bytes = figure Bytes c.first_number-4.result in
    rw (← c.first_number.ensures, ← c.first_number-2.ensures, ← c.first_number-3.ensures, ← c.first_number-4.ensures)
    (two_texts c.args.text.now.items t1 t4 (figure Files c.first_number.result) (lines ++ (blank ++ bytes)) c.in_ok-push_figure.ensures
    (two_texts t1 t2 t4 lines (blank ++ bytes) c.in_ok-push_figure-2.ensures
    (two_texts t2 t3 t4 blank bytes c.in_ok-push_figure-3.ensures c.in_ok-push_figure-4.ensures)))
