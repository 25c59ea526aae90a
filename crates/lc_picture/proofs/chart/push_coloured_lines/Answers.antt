use Rattle.lc_sheet.specs.Sheets.{line_of}
use Rattle.lc_picture.specs.Chart.{cells, coloured}
use Rattle.lc_picture.proofs.{Lines.one_line_more, Texts.two_texts}
use Rattle.lc_picture.proofs.chart.push_coloured_lines.Goals as goal

pub loop-place-preserved : goal.loop-place-preserved
loop-place-preserved g c =
    let t0 = c.loop-place.text.items in
    let t1 = c.push_coloured.new.text.items in
    let t2 = c.push_cells.new.text.items in
    let value = g.L.Lines.value_in c.parts.result.0 in
    let columns = c.parts.result.1.now in
    one_line_more value columns t0 t2 _ c.index-lines-place.result _ c.parts.result.2.now c.loop-place.place c.loop-place-test.true
    c.index-lines-place.is
    (two_texts t0 t1 t2 (coloured c.loop-place.place) (cells (line_of value columns c.index-lines-place.result))
    c.in_ok-push_coloured.ensures c.in_ok-push_cells.ensures)
    c.loop-place.invariant
