use Rattle.std.proofs.Common.{ap, ◌∙◌}
use Rattle.lc_reading.specs.Members.{members_of}
use Rattle.lc_reading.proofs.ObjectsRead.{small_taken, lent_more}
use Rattle.lc_reading.proofs.object.read_small.Goals as goal

pub returns : goal.returns
returns c is e attributes =
    small_taken attributes c.args.name is c.args.key.now e c.args.object.now _ c.args.reader.now c.read_value.new.reader
    _ c.in_ok-value.ensures.tokens
    (ap members_of c.in_ok-push.ensures.items ∙ lent_more c.args.object.now.values.items (c.args.key, c.in_ok-value.value))
