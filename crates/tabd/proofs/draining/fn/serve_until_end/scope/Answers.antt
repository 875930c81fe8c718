-- What the thread that reads standard input takes with it may go to another thread: loans of the server, the door, and what ends the thread.
use mathlib.Core.List.{[], ◌∷◌}
use mir.Syntax.{named}
use denote.Ref.{NamedLft, ShrRef}
use denote.Param.{copied, param}
use denote.Param.Send.{IsSync, sendable, shr_send, copied_send, copied_sync, param_sync}
use denote.Param.SendFields.{declared_sync, as_row_sync}
use Rattle.std.proofs.Crossing.{crosses}
use Rattle.std.specs.contracts.net.tcp.TcpStream as stream
use Rattle.tab_book.proofs.Closures.{closure_send}
use Rattle.tab_metrics.specs.contracts.closing.Closing as closing
use Rattle.tab_server.specs.contracts.server.Server as server
use Rattle.tab_server.proofs.Crossing.{server-sync}
use Rattle.tabd.proofs.draining.fn.serve_until_end.scope.Goals as goal

stream-sync : IsSync stream.the_row
stream-sync = search (sendable, crosses, declared_sync, as_row_sync) depth 20

closing-sync : IsSync closing.the_row
closing-sync = search (sendable, crosses, declared_sync, as_row_sync) depth 20

pub spawn-started-requires-send-F : goal.spawn-started-requires-send-F
spawn-started-requires-send-F g c κs within =
    let H = copied 0 g.row.H in
    let G = param 2 g.row.G in
    let a : NamedLft = record { mir = named 6; lft = κs.1.1.1.1.1.1.0 } in
    let shares = server-sync a H G g.H.Naming g.H.Host g.H.Wait g.H.Clone (copied_send 0 g.row.H (search c.requires parts 8)) (copied_sync 0 g.row.H (search c.requires parts 8)) (param_sync 2 g.row.G (search c.requires parts 8)) in
    let sent = closure_send (ShrRef (named 5) κs.1.1.1.1.1.0 (server.the_row a H G g.H.Naming g.H.Host g.H.Wait g.H.Clone) ∷ ShrRef (named 7) κs.1.1.1.1.1.1.1.0 stream.the_row ∷ ShrRef (named 8) κs.1.1.1.1.1.1.1.1.0 closing.the_row ∷ [])
    (shr_send _ _ _ shares, (shr_send _ _ _ stream-sync, (shr_send _ _ _ closing-sync, tt))) in
    record { owned = sent.owned; leaving = sent.leaving }

pub serve_timed-end-requires-send-H : goal.serve_timed-end-requires-send-H
serve_timed-end-requires-send-H g c κs within =
    let sent = copied_send 0 g.row.H (search c.requires parts 8) in
    record { owned = sent.owned; leaving = sent.leaving }

pub serve_timed-end-requires-sync-H : goal.serve_timed-end-requires-sync-H
serve_timed-end-requires-sync-H g c κs within =
    let seen = copied_sync 0 g.row.H (search c.requires parts 8) in
    record { shared = seen.shared }

pub serve_timed-end-requires-sync-G : goal.serve_timed-end-requires-sync-G
serve_timed-end-requires-sync-G g c κs within =
    let seen = param_sync 2 g.row.G (search c.requires parts 8) in
    record { shared = seen.shared }
