-- The ends of a mailbox may go to another thread where their handle may. An item may, since terms may, and those that are shared.
use denote.RattleType.{RattleType}
use denote.Hole.{as_row}
use denote.Struct.Field.{row_field, u64-field}
use denote.Param.Send.{IsSend, IsSync, plain_send, sendable}
use denote.Param.SendFields.{as_row_send, as_row_sync, declared_send, declared_sync, variants_send, variants_sync}
use Rattle.std.proofs.Crossing.{Arc-send, crosses}
use Rattle.std.proofs.alloc.Global.TheSendSync as global_marks
use Rattle.std.below.std_heap.proofs.GlobalAllocator.TheSendSync as heap_marks
use Rattle.tab_term.proofs.atom.Atom.TheSendSync as atom_marks
use Rattle.tab_lists.proofs.Crossing.{EventTerms-send, EventTerms-sync, SharedTerms-send, SharedTerms-sync}
use Rattle.tab_term.specs.contracts.atom.Atom as atom
use Rattle.tab_lists.specs.contracts.events.EventTerms as event_terms
use Rattle.tab_lists.specs.contracts.shared_terms.SharedTerms as shared_terms
use Rattle.tab_model.specs.contracts.data.Item as item
use Rattle.tab_model.specs.contracts.shared_item.SharedItem as shared_item
use Rattle.tab_post.specs.declared.naming.Entry as entry
use Rattle.tab_post.specs.declared.naming.Naming.{Ghosts}
use Rattle.tab_post.specs.contracts.prefix.Prefix as prefix
use Rattle.tab_post.proofs.prefix.Prefix.TheSendSync as prefix_marks
use Rattle.tab_post.specs.contracts.post.ChannelPost as post
use Rattle.tab_post.specs.contracts.rule.PassView as pass_view
use Rattle.crossbeam_channel.specs.contracts.flavors.array.Doing as doing
use Rattle.crossbeam_channel.specs.contracts.flavors.array.Key as key
use Rattle.atomic_table.specs.contracts.shared.Seat as seat
use Rattle.atomic_table.specs.contracts.badge.Badge as badge
use Rattle.tab_post.specs.contracts.inbox.Inbox as inbox
use Rattle.tab_post.specs.contracts.tally.Tally as tally
use Rattle.tab_post.specs.contracts.weights.Weights as weights
use Rattle.circular_buffer.proofs.heap.HeapCircularBuffer.TheSendSync as buffer_marks
use Rattle.crossbeam_channel.proofs.flavors.array.ruled.Sending.TheSendSync as sending_marks
use Rattle.crossbeam_channel.proofs.flavors.array.ruled.Receiving.TheSendSync as receiving_marks
use Rattle.crossbeam_channel.proofs.flavors.array.Rows.TheSendSync as rows_marks
use Rattle.atomic_table.proofs.shared.Seat.TheSendSync as seat_marks
use Rattle.atomic_table.proofs.badge.Badge.TheSendSync as badge_marks
use Rattle.tab_model.proofs.data.Level.TheSendSync as level_marks
use Rattle.tab_model.proofs.data.Ending.TheSendSync as ending_marks
use Rattle.std.proofs.option.Option.TheSendSync as option_marks

events_field : IsSend (as_row (row_field event_terms.the_row))
events_field = as_row_send (row_field event_terms.the_row) EventTerms-send

atom_field : IsSend (as_row atom.the_field)
atom_field = as_row_send atom.the_field atom_marks.the_send

one_item_send : IsSend item.the_row
one_item_send =
    variants_send item.enum (
      (atom_field, (level_marks.the_send, (option_marks.the_send shared_terms.the_row SharedTerms-send, tt))),
      (
        (as_row_send u64-field (plain_send _ _ _ _ _), (events_field, tt)),
        ((atom_field, (ending_marks.the_send, tt)), tt),
      ),
    )

one_item_sync : IsSync item.the_row
one_item_sync = search (sendable, as_row_sync, declared_sync, variants_sync, atom_marks.the_sync, level_marks.the_sync, ending_marks.the_sync, option_marks.the_sync, SharedTerms-sync, EventTerms-sync) depth 20

-- the count of who is given an item may be raised and lowered by each thread
item_send : IsSend shared_item.the_row
item_send = search (sendable, Arc-send, declared_send, declared_sync, as_row_send, as_row_sync, one_item_send, one_item_sync) depth 20

tally_send : IsSend tally.the_row
tally_send = search (sendable, crosses, declared_send, as_row_send) depth 20

weights_send : IsSend weights.the_row
weights_send = search (sendable, crosses, declared_send, as_row_send, tally_send, buffer_marks.the_send) depth 20

pass_send : IsSend (seat.the_row (badge.the_row (key.the_row shared_item.the_row)) (doing.the_row shared_item.the_row pass_view.the_row))
pass_send = seat_marks.the_send (badge.the_row (key.the_row shared_item.the_row)) (doing.the_row shared_item.the_row pass_view.the_row) (badge_marks.the_send (key.the_row shared_item.the_row))

prefix_send : (E J : RattleType) (entries : entry.Ghosts E.Denot) (names : Ghosts J.Denot) → IsSend (as_row (prefix.the_field E J entries names))
prefix_send E J entries names = prefix_marks.the_send E J entries names

module _ (H : RattleType) (names : Ghosts H.Denot) where
  pub ChannelPost-send : IsSend H → IsSend (post.the_row H names)
  ChannelPost-send h =
      declared_send (post.the_type H names) (
        as_row_send (row_field H) h,
        (
          search (sending_marks.the_send, rows_marks.the_send, rows_marks.the_sync, badge_marks.the_send, option_marks.the_send, item_send, global_marks.the_send, global_marks.the_sync, heap_marks.the_frees) depth 12,
          (
            pass_send,
            (
              as_row_send u64-field (plain_send _ _ _ _ _),
              (as_row_send u64-field (plain_send _ _ _ _ _), (as_row_send u64-field (plain_send _ _ _ _ _), (search prefix_send, (option_marks.the_send weights.the_row weights_send, tt)))),
            ),
          ),
        ),
      )

  pub Inbox-send : IsSend H → IsSend (inbox.the_row H names)
  Inbox-send h =
      declared_send (inbox.the_type H names) (
        as_row_send (row_field H) h,
        (
          search (receiving_marks.the_send, rows_marks.the_send, rows_marks.the_sync, badge_marks.the_send, option_marks.the_send, item_send, global_marks.the_send, global_marks.the_sync, heap_marks.the_frees) depth 12,
          (pass_send, (as_row_send u64-field (plain_send _ _ _ _ _), (search prefix_send, (option_marks.the_send tally.the_row tally_send, tt)))),
        ),
      )
