-- What a client's thread takes with it may go to another thread: the client's stream, and loans of the server and of a count.
use mathlib.Core.List.{[], ◌∷◌}
use mir.Syntax.{named}
use denote.Ref.{NamedLft, ShrRef}
use denote.Param.{copied, param}
use denote.Param.Send.{IsSend, IsSync, sendable, shr_send, copied_send, copied_sync, param_sync}
use denote.Param.SendFields.{declared_send, as_row_send}
use Rattle.std.proofs.Crossing.{crosses}
use Rattle.std.specs.contracts.net.tcp.TcpStream as stream
use Rattle.std.specs.contracts.sync.atomic.AtomicU64 as word
use Rattle.tab_book.proofs.Closures.{closure_send}
use Rattle.tab_server.specs.contracts.server.Server as server
use Rattle.tab_server.proofs.Crossing.{server-sync}
use Rattle.tab_metrics.proofs.pages.fn.serve_pages.scope.Goals as goal

stream-send : IsSend stream.the_row
stream-send = search (sendable, crosses, declared_send, as_row_send) depth 20

word-sync : IsSync word.the_row
word-sync = search crosses

pub spawn-started-requires-send-F : goal.spawn-started-requires-send-F
spawn-started-requires-send-F g c κs within =
    let H = copied 0 g.row.H in
    let P = param 1 g.row.P in
    let a : NamedLft = record { mir = named 6; lft = κs.1.1.1.1.1.1.0 } in
    let shares = server-sync a H P g.H.Naming g.H.Host g.H.Wait g.H.Clone (copied_send 0 g.row.H (search c.requires parts 8)) (copied_sync 0 g.row.H (search c.requires parts 8)) (param_sync 1 g.row.P (search c.requires parts 8)) in
    let sent = closure_send (ShrRef (named 5) κs.1.1.1.1.1.0 (server.the_row a H P g.H.Naming g.H.Host g.H.Wait g.H.Clone) ∷ stream.the_row ∷ ShrRef (named 7) κs.1.1.1.1.1.1.1.0 word.the_row ∷ [])
    (shr_send _ _ _ shares, (stream-send, (shr_send _ _ _ word-sync, tt))) in
    record { owned = sent.owned; leaving = sent.leaving }
