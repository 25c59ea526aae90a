use Rattle.std.proofs.Common.{List, subst, sym}
use Rattle.json.specs.Token.{Token}
use Rattle.lc_reading.proofs.ListsRead.{SoFar, one_more, all_read}
use Rattle.lc_reading.proofs.lists.read_lines.Goals as goal

pub lines-preserved : goal.lines-preserved
lines-preserved g c =
    let far = subst (λ (now : List Token). SoFar (g.L.ListLine.is_of c.args.attributes.now) c.args.reader.now now c.lines.lines.items) (sym
    c.lines-test.ensures.1) c.lines.invariant in
    subst (λ (ls : List g.row.L.Denot). SoFar (g.L.ListLine.is_of c.args.attributes.now) c.args.reader.now c.read_line.new.reader ls) (sym
    c.in_ok-push.ensures.items)
    (one_more (g.L.ListLine.is_of c.args.attributes.now) c.args.reader.now c.take_end_array.new.self c.read_line.new.reader
    c.lines.lines.items c.in_ok-line.line
    far c.in_ok-line.ensures.line)

pub returns : goal.returns
returns g c =
    all_read (g.L.ListLine.is_of c.args.attributes.now) c.args.reader.now c.lines.reader c.take_end_array.new.self c.lines.lines.items
    c.lines.invariant
    c.lines-test.ensures
