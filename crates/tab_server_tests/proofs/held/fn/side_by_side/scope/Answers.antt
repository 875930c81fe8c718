-- What goes to a thread may: the reader, and loans of the server and of the pipe.
use mathlib.Core.List.{[], ◌∷◌}
use mir.Syntax.{named}
use denote.RattleType.{RattleType}
use denote.Ref.{NamedLft, ShrRef}
use denote.Param.{copied}
use denote.Param.Send.{IsSend, IsSync, sendable, shr_send, copied_send, copied_sync}
use denote.Param.SendFields.{declared_send, as_row_send, declared_sync, as_row_sync}
use Rattle.std.proofs.Crossing.{crosses}
use Rattle.tab_book.proofs.Closures.{closure_send}
use Rattle.tab_book.specs.contracts.shared.Seat as seat
use Rattle.tab_post.proofs.Crossing.{Inbox-send}
use Rattle.tab_post.specs.declared.naming.Naming as naming
use Rattle.tab_server.proofs.Crossing.{server-sync}
use Rattle.tab_server.specs.contracts.gate.Open as open_gate
use Rattle.tab_server.specs.contracts.server.Server as server
use Rattle.tab_server_tests.specs.contracts.held.Client as client
use Rattle.tab_server_tests.specs.contracts.held.Pipe as pipe
use Rattle.tab_server_tests.proofs.held.fn.side_by_side.scope.Goals as goal

seat-send : IsSend seat.the_row
seat-send = search (sendable, declared_send, as_row_send) depth 20

client-send : (H : RattleType) (names : naming.Ghosts H.Denot) → IsSend H → IsSend (client.the_row H names)
client-send H names h = declared_send (client.the_type H names) (seat-send, (search (as_row_send, Inbox-send), tt))

pipe-sync : IsSync pipe.the_row
pipe-sync = search (sendable, crosses, declared_sync, as_row_sync, declared_send, as_row_send) depth 20

gate-sync : IsSync open_gate.the_row
gate-sync = search (sendable, declared_sync, as_row_sync) depth 20

pub spawn-sending-requires-send-F : goal.spawn-sending-requires-send-F
spawn-sending-requires-send-F g c κs within =
    let H = copied 0 g.row.H in
    let send = copied_send 0 g.row.H (search c.requires parts 8) in
    let a : NamedLft = record { mir = named 6; lft = κs.1.1.1.1.1.1.0 } in
    let shares = server-sync a H open_gate.the_row g.H.Naming g.H.Host g.H.Wait g.H.Clone send (copied_sync 0 g.row.H (search c.requires parts 8)) gate-sync in
    let sent = closure_send (ShrRef (named 5) κs.1.1.1.1.1.0 (server.the_row a H open_gate.the_row g.H.Naming g.H.Host g.H.Wait g.H.Clone) ∷ client.the_row H g.H.Naming ∷ ShrRef (named 7) κs.1.1.1.1.1.1.1.0 pipe.the_row ∷ [])
    (shr_send _ _ _ shares, (client-send H g.H.Naming send, (shr_send _ _ _ pipe-sync, tt))) in
    record { owned = sent.owned; leaving = sent.leaving }
