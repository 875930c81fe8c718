-- What goes to a thread may: loans of the server, the listener and a count.
use mathlib.Core.List.{[], ◌∷◌}
use mir.Syntax.{named}
use denote.Ref.{NamedLft, ShrRef}
use denote.Param.{copied, param}
use denote.Param.Send.{IsSync, sendable, shr_send, copied_send, copied_sync, param_sync}
use denote.Param.SendFields.{declared_sync, as_row_sync}
use Rattle.std.proofs.Crossing.{crosses}
use Rattle.std.specs.contracts.sync.atomic.AtomicU64 as word
use Rattle.tab_book.proofs.Closures.{closure_send}
use Rattle.tab_server.specs.contracts.server.Server as server
use Rattle.tab_server.specs.contracts.listener.Listener as listener
use Rattle.tab_server.proofs.Crossing.{server-sync}
use Rattle.tab_server_tests.proofs.gates.fn.beside.scope.Goals as goal

word-sync : IsSync word.the_row
word-sync = search crosses

listener-sync : IsSync listener.the_row
listener-sync = search (sendable, crosses, declared_sync, as_row_sync) depth 20

pub spawn-serving-requires-send-F : goal.spawn-serving-requires-send-F
spawn-serving-requires-send-F g c κs within =
    let H = copied 0 g.row.H in
    let G = param 1 g.row.G in
    let a : NamedLft = record { mir = named 6; lft = κs.1.1.1.1.1.1.0 } in
    let shares = server-sync a H G g.H.Naming g.H.Host g.H.Wait g.H.Clone (copied_send 0 g.row.H (search c.requires parts 8)) (copied_sync 0 g.row.H (search c.requires parts 8)) (param_sync 1 g.row.G (search c.requires parts 8)) in
    let sent = closure_send (ShrRef (named 5) κs.1.1.1.1.1.0 (server.the_row a H G g.H.Naming g.H.Host g.H.Wait g.H.Clone) ∷ ShrRef (named 7) κs.1.1.1.1.1.1.1.0 listener.the_row ∷ ShrRef (named 8) κs.1.1.1.1.1.1.1.1.0 word.the_row ∷ [])
    (shr_send _ _ _ shares, (shr_send _ _ _ listener-sync, (shr_send _ _ _ word-sync, tt))) in
    record { owned = sent.owned; leaving = sent.leaving }
