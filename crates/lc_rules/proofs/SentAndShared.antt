-- Which files and chains may be shared among threads and sent to them, as a set for `search`, which runs out of steps where it goes down
-- through all their parts at once.
use denote.Param.Send.{IsSend, IsSync, sendable}
use Rattle.std.proofs.Crossing as below
use Rattle.std.proofs.MapsCrossing as maps
use Rattle.std.proofs.MapsCrossingOver as over
use Rattle.lc_rules.specs.contracts.attr_chain.AttrChain as AttrChain
use Rattle.lc_rules.specs.contracts.attr_file.AttrFile as AttrFile
use Rattle.lc_rules.specs.contracts.ignore_chain.Chain as Chain
use Rattle.lc_rules.specs.contracts.ignore_file.IgnoreFile as IgnoreFile

pub ignore_file_send : IsSend IgnoreFile.the_row
ignore_file_send = search (sendable, below.crosses) depth 100 fits 20000

pub ignore_file_sync : IsSync IgnoreFile.the_row
ignore_file_sync = search (sendable, below.crosses) depth 100 fits 20000

pub chain_send : IsSend Chain.the_row
chain_send = search (ignore_file_send, ignore_file_sync, sendable, below.crosses) depth 100 fits 20000

pub chain_sync : IsSync Chain.the_row
chain_sync = search (ignore_file_send, ignore_file_sync, sendable, below.crosses) depth 100 fits 20000

pub attr_file_send : IsSend AttrFile.the_row
attr_file_send = search (sendable, below.crosses, maps.crosses, over.crosses) depth 100 fits 20000

pub attr_file_sync : IsSync AttrFile.the_row
attr_file_sync = search (sendable, below.crosses, maps.crosses, over.crosses) depth 100 fits 20000

pub attr_chain_send : IsSend AttrChain.the_row
attr_chain_send = search (attr_file_send, attr_file_sync, sendable, below.crosses) depth 100 fits 20000

pub attr_chain_sync : IsSync AttrChain.the_row
attr_chain_sync = search (attr_file_send, attr_file_sync, sendable, below.crosses) depth 100 fits 20000

pub ruleset crosses = (
  ignore_file_send,
  ignore_file_sync,
  chain_send,
  chain_sync,
  attr_file_send,
  attr_file_sync,
  attr_chain_send,
  attr_chain_sync,
)
