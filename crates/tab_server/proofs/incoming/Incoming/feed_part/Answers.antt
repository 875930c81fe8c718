use Rattle.std.proofs.Common.{List, ℕ, ◌++◌, not, ap, take}
use Rattle.tab_etf.specs.Frames.{contents}
use Rattle.tab_server.proofs.Placing.{passes_past}
use Rattle.tab_server.proofs.Streaming.{gives, refused}
use Rattle.tab_server.proofs.incoming.Incoming.feed_part.Goals as goal

pub returns-in-Ok-clause-ok : goal.returns-in-Ok-clause-ok
returns-in-Ok-clause-ok c at i none some =
    let going = c.in-Ok.ensures.ok in
    let part : List ℕ = take c.pass-count.result c.args.piece.now in
    gives at part c.args.self.now _ (contents c.in-Ok.frames.items) i none none going (c.finish-end.ensures.found going.still) (passes_past (at ++ part) c.pass-count.new.self (c.pass-count.ensures.passes at i.at some))

pub returns-in-Err-NoMemory-clause-err : goal.returns-in-Err-NoMemory-clause-err
returns-in-Err-NoMemory-clause-err c at i none some n seen =
    refused n seen at (take c.pass-count.result c.args.piece.now) c.args.self.now _ i none c.new.ensures (ap not c.is_between.ensures) (c.pass-count.ensures.passes at i.at some)
