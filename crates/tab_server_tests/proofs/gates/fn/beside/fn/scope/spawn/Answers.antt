-- The handle may go to another thread, and it and the gate be shared, as the server asks.
use denote.Param.Send.{copied_send, copied_sync, param_sync}
use Rattle.tab_server_tests.proofs.gates.fn.beside.fn.scope.spawn.Goals as goal

pub serve_all-requires-send-H : goal.serve_all-requires-send-H
serve_all-requires-send-H g c κs within =
    let sent = copied_send 0 g.row.H (search c.requires parts 8) in
    record { owned = sent.owned; leaving = sent.leaving }

pub serve_all-requires-sync-H : goal.serve_all-requires-sync-H
serve_all-requires-sync-H g c κs within =
    let seen = copied_sync 0 g.row.H (search c.requires parts 8) in
    record { shared = seen.shared }

pub serve_all-requires-sync-G : goal.serve_all-requires-sync-G
serve_all-requires-sync-G g c κs within =
    let seen = param_sync 1 g.row.G (search c.requires parts 8) in
    record { shared = seen.shared }
