use Rattle.tab_etf.specs.Frames.{contents}
use Rattle.tab_server.proofs.Streaming.{gives}
use Rattle.tab_server.proofs.incoming.Incoming.feed.Goals as goal

pub returns-clause-ok : goal.returns-clause-ok
returns-clause-ok c at i none =
    let going = c.in_ok-frames.ensures.ok in
    gives at c.args.piece.now c.args.self.now _ (contents c.in_ok-frames.frames.items) i none none going (c.finish-end.ensures.found going.still) (c.pass_all.ensures at i.at)
