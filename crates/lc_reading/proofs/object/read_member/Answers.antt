use Rattle.lc_reading.proofs.ObjectsRead.{faults_filled, files_filled, on_ok, other_taken, rows_filled, skipped_filled}
use Rattle.lc_reading.proofs.object.read_member.Goals as goal

pub returns-in-Rows : goal.returns-in-Rows
returns-in-Rows c =
    on_ok c.fill.result (rows_filled c.args.attributes.now c.args.key.now c.in-Rows.ensures c.args.object.now c.fill.new.list
    c.args.reader.now c.fill.new.reader)
    c.fill.ensures

pub returns-in-Files : goal.returns-in-Files
returns-in-Files c =
    on_ok c.fill-in-Files.result (files_filled c.args.attributes.now c.args.key.now c.in-Files.ensures c.args.object.now
    c.fill-in-Files.new.list c.args.reader.now
    c.fill-in-Files.new.reader) c.fill-in-Files.ensures

pub returns-in-Left : goal.returns-in-Left
returns-in-Left c =
    on_ok c.fill-in-Left.result (skipped_filled c.args.attributes.now c.args.key.now c.in-Left.ensures c.args.object.now
    c.fill-in-Left.new.list c.args.reader.now
    c.fill-in-Left.new.reader) c.fill-in-Left.ensures

pub returns-in-Faults : goal.returns-in-Faults
returns-in-Faults c =
    on_ok c.fill-in-Faults.result (faults_filled c.args.attributes.now c.args.key.now c.in-Faults.ensures c.args.object.now
    c.fill-in-Faults.new.list
    c.args.reader.now c.fill-in-Faults.new.reader) c.fill-in-Faults.ensures

pub returns-in-Other : goal.returns-in-Other
returns-in-Other c =
    on_ok c.skip.result (other_taken c.args.attributes.now c.args.key.now c.in-Other.ensures c.args.object.now c.args.reader.now
    c.skip.new.reader)
    c.skip.ensures
