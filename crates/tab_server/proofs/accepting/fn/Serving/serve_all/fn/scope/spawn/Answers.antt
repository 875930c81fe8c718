-- The handle may go to another thread, and it and the gate be shared, as the function that starts the thread asks.
use denote.Param.Send.{copied_send, copied_sync, param_sync}
use Rattle.tab_server.proofs.accepting.fn.Serving.serve_all.fn.scope.spawn.Goals as goal

pub serve_connection-requires-send-H : goal.serve_connection-requires-send-H
serve_connection-requires-send-H g c κs within =
    let sent = copied_send 0 g.row.H (search c.requires parts 8) in
    record { owned = sent.owned; leaving = sent.leaving }

pub serve_connection-requires-sync-H : goal.serve_connection-requires-sync-H
serve_connection-requires-sync-H g c κs within =
    let seen = copied_sync 0 g.row.H (search c.requires parts 8) in
    record { shared = seen.shared }

pub serve_connection-requires-sync-G : goal.serve_connection-requires-sync-G
serve_connection-requires-sync-G g c κs within =
    let seen = param_sync 1 g.row.G (search c.requires parts 8) in
    record { shared = seen.shared }
