use Rattle.lc_walk.proofs.Growing.{gains_absorbed}
use Rattle.lc_walk.proofs.tally.keyed_rows.KeyedRows.absorb.Goals as goal

pub returns : goal.returns
returns c = gains_absorbed c.args.self.now c.self.inside.rows.items c.args.at c.absorb.new.self c.index_mut-row.result.now c.args.key.now
    c.args.more c.self.view_is c.requires.within c.requires.found c.index_mut-row.ensures.value c.absorb.ensures.key c.absorb.ensures.sums
    c.requires.room
