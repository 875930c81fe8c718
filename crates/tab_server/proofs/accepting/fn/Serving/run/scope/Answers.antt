-- What the dispatcher's thread takes with it may go to another thread; and what the functions that serve ask of the handle and the gate.
use mir.Syntax.{named}
use denote.Param.Send.{copied_send, copied_sync, param_sync}
use Rattle.tab_server.proofs.Crossing.{dispatcher_thread}
use Rattle.tab_server.proofs.accepting.fn.Serving.run.scope.Goals as goal

pub spawn-started-requires-send-F : goal.spawn-started-requires-send-F
spawn-started-requires-send-F g c κs within =
    let sent = dispatcher_thread record { mir = named 6; lft = κs.1.1.1.1.1.1.0 } g.row.H g.row.G g.H.Naming g.H.Host g.H.Wait g.H.Clone κs.1.1.1.1.1.0 (search c.requires parts 8) (search c.requires parts 8) (search c.requires parts 8) in
    record { owned = sent.owned; leaving = sent.leaving }

pub serve_some-served-requires-send-H : goal.serve_some-served-requires-send-H
serve_some-served-requires-send-H g c κs within =
    let sent = copied_send 0 g.row.H (search c.requires parts 8) in
    record { owned = sent.owned; leaving = sent.leaving }

pub serve_some-served-requires-sync-H : goal.serve_some-served-requires-sync-H
serve_some-served-requires-sync-H g c κs within =
    let seen = copied_sync 0 g.row.H (search c.requires parts 8) in
    record { shared = seen.shared }

pub serve_some-served-requires-sync-G : goal.serve_some-served-requires-sync-G
serve_some-served-requires-sync-G g c κs within =
    let seen = param_sync 1 g.row.G (search c.requires parts 8) in
    record { shared = seen.shared }

pub serve_all-requires-send-H : goal.serve_all-requires-send-H
serve_all-requires-send-H g c κs within =
    let sent = copied_send 0 g.row.H (search c.requires parts 8) in
    record { owned = sent.owned; leaving = sent.leaving }

pub serve_all-requires-sync-H : goal.serve_all-requires-sync-H
serve_all-requires-sync-H g c κs within =
    let seen = copied_sync 0 g.row.H (search c.requires parts 8) in
    record { shared = seen.shared }

pub serve_all-requires-sync-G : goal.serve_all-requires-sync-G
serve_all-requires-sync-G g c κs within =
    let seen = param_sync 1 g.row.G (search c.requires parts 8) in
    record { shared = seen.shared }
