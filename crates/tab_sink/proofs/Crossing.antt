-- What the threads of several connections share.
use denote.Param.Send.{IsSync, sendable}
use denote.Param.SendFields.{declared_sync, as_row_sync}
use Rattle.std.proofs.Crossing.{crosses}
use Rattle.tab_sink.specs.contracts.stream.Senders as senders

pub senders-sync : IsSync senders.the_row
senders-sync = search (sendable, crosses, declared_sync, as_row_sync) depth 20
