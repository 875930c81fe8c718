-- What a connection's thread takes with it may go to another thread.
use mir.Syntax.{named}
use Rattle.tab_server.proofs.Crossing.{session_thread}
use Rattle.tab_server.proofs.accepting.fn.Serving.serve_all.scope.Goals as goal

pub spawn-started-requires-send-F : goal.spawn-started-requires-send-F
spawn-started-requires-send-F g c κs within =
    let sent = session_thread record { mir = named 6; lft = κs.1.1.1.1.1.1.0 } g.row.H g.row.G g.H.Naming g.H.Host g.H.Wait g.H.Clone κs.1.1.1.1.1.0 (search c.requires parts 8) (search c.requires parts 8) (search c.requires parts 8) in
    record { owned = sent.owned; leaving = sent.leaving }
