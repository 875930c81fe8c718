-- The handle may go to another thread, and it and the gate be shared, as the function that starts the thread asks.
use denote.Param.Send.{copied_send, copied_sync, param_sync}
use Rattle.tabd.proofs.serving.fn.beside_pages.fn.scope.spawn.Goals as goal

pub serve_pages-requires-send-H : goal.serve_pages-requires-send-H
serve_pages-requires-send-H g c κs within =
    let sent = copied_send 0 g.row.H (search c.requires parts 8) in
    record { owned = sent.owned; leaving = sent.leaving }

pub serve_pages-requires-sync-H : goal.serve_pages-requires-sync-H
serve_pages-requires-sync-H g c κs within =
    let seen = copied_sync 0 g.row.H (search c.requires parts 8) in
    record { shared = seen.shared }

pub serve_pages-requires-sync-P : goal.serve_pages-requires-sync-P
serve_pages-requires-sync-P g c κs within =
    let seen = param_sync 2 g.row.G (search c.requires parts 8) in
    record { shared = seen.shared }
