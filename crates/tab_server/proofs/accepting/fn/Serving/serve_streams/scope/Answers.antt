-- What the threads beside the one that answers take with them may go to another thread.
use mir.Syntax.{named}
use Rattle.tab_server.proofs.Crossing.{connection_thread}
use Rattle.tab_server.proofs.accepting.fn.Serving.serve_streams.scope.Goals as goal

pub spawn-watching-requires-send-F : goal.spawn-watching-requires-send-F
spawn-watching-requires-send-F g c κs within =
    let sent = connection_thread record { mir = named 7; lft = κs.1.1.1.1.1.1.1.0 } g.row.H g.row.G g.H.Naming g.H.Host g.H.Wait g.H.Clone κs.1.1.1.1.1.1.0 (search c.requires parts 8) (search c.requires parts 8) (search c.requires parts 8) κs.1.1.1.1.1.0 in
    record { owned = sent.owned; leaving = sent.leaving }

pub spawn-sending-requires-send-F : goal.spawn-sending-requires-send-F
spawn-sending-requires-send-F g c κs within =
    let sent = connection_thread record { mir = named 7; lft = κs.1.1.1.1.1.1.1.0 } g.row.H g.row.G g.H.Naming g.H.Host g.H.Wait g.H.Clone κs.1.1.1.1.1.1.0 (search c.requires parts 8) (search c.requires parts 8) (search c.requires parts 8) κs.1.1.1.1.1.0 in
    record { owned = sent.owned; leaving = sent.leaving }
