-- What goes to a thread may: loans of what all share, and of its seat.
use mathlib.Core.List.{[], ◌∷◌}
use mir.Syntax.{named}
use denote.Ref.{ShrRef}
use denote.Param.{copied}
use denote.Param.Send.{IsSync, sendable, shr_send, copied_send, copied_sync}
use denote.Param.SendFields.{declared_sync, as_row_sync}
use Rattle.std.specs.contracts.sync.atomic.AtomicU64 as word
use Rattle.std.proofs.Crossing.{crosses, send as heap_send}
use Rattle.tab_book.proofs.Closures.{closure_send}
use Rattle.tab_book.proofs.Crossing.{Shared-sync}
use Rattle.tab_book.specs.contracts.shared.Shared as shared
use Rattle.tab_book.specs.contracts.shared.Seat as seat
use Rattle.tab_book_tests.proofs.counters.fn.run_threads.scope.Goals as goal

word-sync : IsSync word.the_row
word-sync = search crosses

seat-sync : IsSync seat.the_row
seat-sync = search (sendable, declared_sync, as_row_sync) depth 20

pub spawn-started-requires-send-F : goal.spawn-started-requires-send-F
spawn-started-requires-send-F g c κs within =
    let H = copied 0 g.row.H in
    let send = copied_send 0 g.row.H c.requires.1.0 in
    let sync = copied_sync 0 g.row.H c.requires.1.1 in
    let sent = closure_send (ShrRef (named 5) κs.1.1.1.1.1.0 H ∷ _ ∷ ShrRef (named 6) κs.1.1.1.1.1.1.0 (shared.the_row H g.H.Naming g.H.Host g.H.Wait g.H.Clone) ∷ ShrRef (named 7) κs.1.1.1.1.1.1.1.0 seat.the_row ∷ ShrRef (named 8) κs.1.1.1.1.1.1.1.1.0 word.the_row ∷ [])
    (shr_send _ _ _ sync, (heap_send, (shr_send _ _ _ (Shared-sync H g.H.Naming g.H.Host g.H.Wait g.H.Clone send), (shr_send _ _ _ seat-sync, (shr_send _ _ _ word-sync, tt))))) in
    record { owned = sent.owned; leaving = sent.leaving }
