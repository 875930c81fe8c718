-- What a thread of a connection takes with it may go to another thread, or be shared with one.
use mathlib.Core.List.{[], ◌∷◌}
use mir.Syntax.{Lifetime, named}
use base.Fml.{Lft}
use denote.RattleType.{RattleType}
use denote.Ref.{NamedLft, ShrRef}
use denote.Struct.Field.{row_field, u64-field}
use denote.Struct.Tuple.{TupleAt}
use denote.Hole.{as_row}
use denote.Param.{copied, param}
use denote.Param.Send.{IsSend, IsSync, plain_send, sendable, shr_send, shr_sync, copied_send, copied_sync, param_sync}
use denote.Param.SendFields.{as_row_send, as_row_sync, declared_send, declared_sync, variants_send, variants_sync}
use Rattle.std.proofs.Crossing.{crosses, Arc-send}
use Rattle.std.proofs.option.Option.TheSendSync as option_marks
use Rattle.std.specs.declared.clone.Clone as cloning
use Rattle.std.specs.declared.sync.Wait as waiting
use Rattle.tab_term.proofs.atom.Atom.TheSendSync as atom_marks
use Rattle.tab_term.specs.contracts.atom.Atom as atom
use Rattle.tab_lists.proofs.Crossing.{EventTerms-send, EventTerms-sync, SharedTerms-send, SharedTerms-sync}
use Rattle.tab_lists.specs.contracts.events.EventTerms as event_terms
use Rattle.tab_lists.specs.contracts.shared_terms.SharedTerms as shared_terms
use Rattle.tab_model.proofs.data.Level.TheSendSync as level_marks
use Rattle.tab_model.proofs.data.Ending.TheSendSync as ending_marks
use Rattle.tab_model.specs.contracts.data.Item as item
use Rattle.tab_model.specs.contracts.shared_item.SharedItem as shared_item
use Rattle.tab_post.proofs.Crossing.{Inbox-send}
use Rattle.tab_post.specs.contracts.inbox.Inbox as inbox
use Rattle.tab_post.specs.declared.naming.Host as host
use Rattle.tab_post.specs.declared.naming.Naming as naming
use Rattle.tab_book.proofs.Closures.{closure_send}
use Rattle.tab_book.proofs.Crossing.{Shared-sync}
use Rattle.tab_book.specs.contracts.shared.Seat as seat
use Rattle.tab_sink.proofs.Crossing.{senders-sync}
use Rattle.tab_proto.proofs.events.Delivery.TheSendSync as delivery_marks
use Rattle.tab_server.specs.contracts.accepting.Serving as serving
use Rattle.tab_server.specs.contracts.connection.Connection as connection
use Rattle.tab_server.specs.contracts.connection.Streams as streams
use Rattle.tab_server.specs.contracts.dispatcher.Dispatcher as dispatcher
use Rattle.tab_server.specs.contracts.line.Line as line
use Rattle.tab_server.specs.contracts.mail.Mail as mail
use Rattle.tab_server.specs.contracts.server.Server as server
use Rattle.tab_server.specs.contracts.settings.Settings as settings
use Rattle.tab_post.proofs.room.Room.TheSendSync as room_marks
use Rattle.tab_server.proofs.mail.Turn.TheSendSync as turn_marks

seat-send : IsSend seat.the_row
seat-send = search (sendable, declared_send, as_row_send) depth 20

seat-sync : IsSync seat.the_row
seat-sync = search (sendable, declared_sync, as_row_sync) depth 20

settings-sync : IsSync settings.the_row
settings-sync = search (sendable, crosses, declared_sync, as_row_sync, delivery_marks.the_sync, option_marks.the_sync) depth 20

streams-send : IsSend streams.the_row
streams-send = search (sendable, crosses, declared_send, as_row_send, option_marks.the_send) depth 20

-- an item may, since terms may, and those that are shared
events_field : IsSend (as_row (row_field event_terms.the_row))
events_field = as_row_send (row_field event_terms.the_row) EventTerms-send

atom_field : IsSend (as_row atom.the_field)
atom_field = as_row_send atom.the_field atom_marks.the_send

one_item-send : IsSend item.the_row
one_item-send =
    variants_send item.enum (
      (atom_field, (level_marks.the_send, (option_marks.the_send shared_terms.the_row SharedTerms-send, tt))),
      (
        (as_row_send u64-field (plain_send _ _ _ _ _), (events_field, tt)),
        ((atom_field, (ending_marks.the_send, tt)), tt),
      ),
    )

one_item-sync : IsSync item.the_row
one_item-sync = search (sendable, as_row_sync, variants_sync, atom_marks.the_sync, level_marks.the_sync, ending_marks.the_sync, option_marks.the_sync, SharedTerms-sync, EventTerms-sync) depth 20

item-send : IsSend shared_item.the_row
item-send = search (sendable, Arc-send, declared_send, declared_sync, as_row_send, as_row_sync, one_item-send, one_item-sync) depth 20

ruleset simple_send = (sendable, crosses, declared_send, as_row_send)

ruleset simple_sync = (sendable, crosses, declared_sync, as_row_sync)

module _ (H : RattleType) (names : naming.Ghosts H.Denot) where
  mail-send : IsSend H → IsSend (mail.the_row H names)
  mail-send h =
      declared_send (mail.the_type H names) (
        search (as_row_send, Inbox-send) depth 6,
        (
          search simple_send depth 12,
          (option_marks.the_send shared_item.the_row item-send, (search simple_send, (turn_marks.the_send, (search simple_send, tt)))),
        ),
      )

  line-send : IsSend H → IsSend (line.the_row H names)
  line-send h =
      declared_send (line.the_type H names) (
        search simple_send depth 20,
        (
          search (simple_send, seat-send) depth 12,
          (delivery_marks.the_send, (search (crosses, as_row_send, mail-send) depth 12, (search simple_send depth 12, (search simple_send depth 12, tt)))),
        ),
      )

  line-sync : IsSend H → IsSync (line.the_row H names)
  line-sync h =
      declared_sync (line.the_type H names) (
        search simple_sync depth 20,
        (
          search (simple_sync, seat-sync) depth 12,
          (delivery_marks.the_sync, (search (crosses, as_row_sync, mail-send) depth 12, (search simple_sync depth 12, (search simple_sync depth 12, tt)))),
        ),
      )

  dispatcher-sync : IsSend H → IsSync (dispatcher.the_row H names)
  dispatcher-sync h =
      declared_sync (dispatcher.the_type H names) (
        search (crosses, as_row_sync, line-send, line-sync) depth 12,
        (search simple_sync depth 12, (search simple_sync depth 12, (search (simple_sync, room_marks.the_sync) depth 12, (search simple_sync depth 12, (search simple_sync depth 12, tt))))),
      )

  connection-sync : IsSend H → IsSync (connection.the_row H names)
  connection-sync h =
      declared_sync (connection.the_type H names) (
        search (crosses, as_row_sync, line-send, line-sync) depth 12,
        (search simple_sync depth 20, (search simple_sync depth 20, (search simple_sync depth 20, tt))),
      )

module _ (κ : NamedLft) (H G : RattleType) (names : naming.Ghosts H.Denot) (rooms : host.Ghosts H.Denot) (waits : waiting.Ghosts H.Denot) (clones : cloning.Ghosts H.Denot) where
  pub server-sync : IsSend H → IsSync H → IsSync G → IsSync (server.the_row κ H G names rooms waits clones)
  server-sync h s g =
      declared_sync (server.the_type κ H G names rooms waits clones) (
        search (as_row_sync, shr_sync),
        (
          search simple_sync depth 12,
          (search (as_row_sync, shr_sync, Shared-sync), (settings-sync, (search (as_row_sync, shr_sync), tt))),
        ),
      )

  serving-sync : IsSend H → IsSync H → IsSync G → IsSync (serving.the_row κ H G names rooms waits clones)
  serving-sync h s g =
      declared_sync (serving.the_type κ H G names rooms waits clones) (
        search (as_row_sync, shr_sync, server-sync),
        (dispatcher-sync H names h, (senders-sync, tt)),
      )

-- what a thread takes with it: a loan, for ν, of what the threads of a server share, and what is the thread's own
module _ (κ : NamedLft) (R P : RattleType) (names : naming.Ghosts R.Denot) (rooms : host.Ghosts R.Denot) (waits : waiting.Ghosts R.Denot) (clones : cloning.Ghosts R.Denot) (ν : Lft) (send : IsSend R) (sync : IsSync R) (gate : IsSync P) where
  abbrev H : RattleType
  H = copied 0 R

  abbrev Loan : Lifetime → RattleType
  Loan ℓ = ShrRef ℓ ν (serving.the_row κ H (param 1 P) names rooms waits clones)

  loan-send : (ℓ : Lifetime) → IsSend (Loan ℓ)
  loan-send ℓ = shr_send ℓ ν _ (serving-sync κ H (param 1 P) names rooms waits clones (copied_send 0 R send) (copied_sync 0 R sync) (param_sync 1 P gate))

  pub dispatcher_thread : IsSend (param 1 (TupleAt [] (Loan (named 5) ∷ [])))
  dispatcher_thread = closure_send (Loan (named 5) ∷ []) (loan-send (named 5), tt)

  pub session_thread : IsSend (param 1 (TupleAt [] (Loan (named 5) ∷ seat.the_row ∷ inbox.the_row H names ∷ streams.the_row ∷ [])))
  session_thread = closure_send (Loan (named 5) ∷ seat.the_row ∷ inbox.the_row H names ∷ streams.the_row ∷ []) (loan-send (named 5), (seat-send, (Inbox-send H names (copied_send 0 R send), (streams-send, tt))))

  pub connection_thread : (μ : Lft) → IsSend (param 1 (TupleAt [] (ShrRef (named 5) μ (connection.the_row H names) ∷ Loan (named 6) ∷ [])))
  connection_thread μ = closure_send (ShrRef (named 5) μ (connection.the_row H names) ∷ Loan (named 6) ∷ []) (shr_send (named 5) μ _ (connection-sync H names (copied_send 0 R send)), (loan-send (named 6), tt))
