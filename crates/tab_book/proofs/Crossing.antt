-- A book may go to another thread where its handle may. What it holds may: terms, and what is built of them.
use denote.RattleType.{RattleType}
use denote.Struct.Field.{row_field, u64-field}
use denote.Param.Send.{IsSend, IsSync, plain_send, plain_sync, sendable, view_send}
use denote.Param.SendFields.{as_row_send, as_row_sync, declared_send, declared_sync, variants_send, variants_sync}
use Rattle.std.proofs.Crossing.{Vec-send, Vec-sync, Arc-send, Arc-sync, crosses, frees, send as heap_send}
use Rattle.std.proofs.MapsCrossing.{BTreeMap-send}
use Rattle.tab_map.proofs.Crossing.{Entry-send, Entry-sync, Map-send, Map-sync, Set-send, Set-sync}
use Rattle.tab_term.proofs.atom.Atom.TheSendSync as atom_marks
use Rattle.tab_records.proofs.Crossing.{Records-send, Records-sync}
use Rattle.tab_lists.proofs.Crossing.{SharedTerms-send, SharedTerms-sync, Answers-send, Answers-sync, EventTerms-send, EventTerms-sync}
use Rattle.tab_lists.specs.contracts.answers.Answers as answers
use Rattle.tab_lists.specs.contracts.shared_terms.SharedTerms as shared_terms
use Rattle.tab_term.proofs.Crossing.{Terms-send, Terms-sync, Term-send, Term-sync}
use Rattle.tab_term.specs.contracts.atom.Atom as atom
use Rattle.tab_model.specs.contracts.data.Operation as operation
use Rattle.tab_model.specs.contracts.data.Reply as reply
use Rattle.tab_model.specs.contracts.data.Entry as entry
use Rattle.tab_model.specs.contracts.logged_operation.LoggedOperation as logged_operation
use Rattle.tab_model.specs.contracts.logged_operation.OperationForm as operation_form
use Rattle.tab_model.specs.contracts.logged_reply.LoggedReply as logged
use Rattle.tab_model.specs.contracts.only_record.OnlyRecord as only_record
use Rattle.tab_model.specs.contracts.data.Item as item
use Rattle.tab_model.specs.contracts.shared_item.SharedItem as shared_item
use Rattle.tab_model.specs.contracts.data.TableInfo as info
use Rattle.tab_model.specs.contracts.data.Change as change
use Rattle.tab_model.specs.contracts.data.Lock as lock
use Rattle.tab_model.proofs.data.Limit.TheSendSync as limit_marks
use Rattle.tab_model.specs.contracts.data.Move as move
use Rattle.tab_model.specs.contracts.data.Schema as schema
use Rattle.tab_model.specs.contracts.lists.Moves as moves
use Rattle.tab_model.specs.contracts.lists.Replies as replies
use Rattle.tab_model.proofs.lists.Numbers.TheSendSync as numbers_marks
use Rattle.tab_model.proofs.data.Level.TheSendSync as level_marks
use Rattle.tab_model.proofs.data.TableDef.TheSendSync as definition_marks
use Rattle.tab_index.specs.contracts.further.Further as further
use Rattle.tab_index.specs.contracts.index.Index as index
use Rattle.tab_rows.specs.contracts.rows.Rows as rows
use Rattle.tab_rows.specs.contracts.update.Update as update
use Rattle.tab_index.specs.contracts.table.IndexedTable as table
use Rattle.tab_index.specs.contracts.backlog.Backlog as backlog
use Rattle.tab_index.specs.contracts.bare.BareTable as bare_table
use Rattle.tab_tables.specs.contracts.bare.BareCatalog as bare_catalog
use Rattle.tab_tables.specs.contracts.catalog.Catalog as catalog
use Rattle.tab_txstore.specs.contracts.levels.TxLevels as levels
use Rattle.tab_txstore.specs.contracts.store.TxStore as store
use Rattle.tab_locks.specs.contracts.lock_table.LockTable as locks
use Rattle.tab_locks.specs.contracts.index.Index as places
use Rattle.tab_locks.specs.contracts.tables.Tables as lock_tables
use Rattle.tab_locks.specs.contracts.on_table.OnTable as on_table
use Rattle.tab_locks.specs.contracts.keys.Keys as keys
use Rattle.tab_locks.specs.contracts.first_locks.FirstLocks as first_locks
use Rattle.tab_locks.specs.contracts.numbered_locks.NumberedLocks as numbered_locks
use Rattle.tab_locks.specs.contracts.key_lock.KeyLock as key_lock
use Rattle.tab_locks.specs.contracts.tied_keys.TiedKeys as tied_keys
use Rattle.tab_locks.proofs.holders.Holders.TheSendSync as holders_marks
use Rattle.tab_waitdie.specs.contracts.ages.Ages as ages
use Rattle.tab_core.specs.contracts.machine.Machine as machine
use Rattle.tab_core.specs.contracts.transaction.Transaction as transaction
use Rattle.tab_subs.specs.contracts.session.Session as session
use Rattle.tab_subs.specs.contracts.session.Session.TheInside as session_inside
use Rattle.tab_subs.specs.contracts.subs.Subs as subs
use Rattle.tab_subs.specs.contracts.subs.Subs.TheInside as subs_inside
use Rattle.tab_subs.proofs.watched.Watched.TheSendSync as watched_marks
use Rattle.tab_core.specs.contracts.queue.Request as request
use Rattle.tab_journal.specs.contracts.base.Base as base
use Rattle.tab_outbox.specs.declared.post.Post.{Ghosts}
use Rattle.tab_core.specs.contracts.Core as core
use Rattle.tab_post.specs.declared.naming.Naming as naming
use Rattle.tab_post.specs.declared.naming.Host as host
use Rattle.std.specs.declared.sync.Wait as waiting
use Rattle.std.specs.declared.clone.Clone as cloning
use Rattle.tab_post.proofs.prefix.Prefix.TheSendSync as prefix_marks
use Rattle.tab_post.proofs.register.Register.TheSendSync as register_marks
use Rattle.tab_post.proofs.Crossing.{ChannelPost-send}
use Rattle.tab_post.specs.contracts.post.ChannelPost as channel_post
use Rattle.tab_post.specs.contracts.post.ChannelPostPost.TheImpl as session_posts
use Rattle.tab_book.specs.contracts.log.Log as log
use Rattle.tab_book.specs.contracts.log.Log.TheInside as log_inside
use Rattle.tab_book.specs.contracts.book.Book as book
use Rattle.tab_book.specs.contracts.book.Book.TheInside as inside
use Rattle.tab_book.specs.contracts.shared.Shared as shared
use Rattle.circular_buffer.proofs.heap.HeapCircularBuffer.TheSendSync as buffer_marks
use Rattle.tab_model.proofs.data.Limits.TheSendSync as limits_marks
use Rattle.tab_journal.specs.contracts.journal.Folded as folded
use Rattle.tab_journal.specs.contracts.journal.Journal as journal
use Rattle.tab_journal.proofs.subscriptions.Subscription.TheSendSync as subscription_marks

ruleset parts = (sendable, as_row_send, as_row_sync, declared_send, declared_sync, variants_send, variants_sync, Vec-send, Vec-sync, Arc-send, Arc-sync, Map-send, Map-sync, BTreeMap-send, atom_marks.the_send, atom_marks.the_sync)

operation-send : IsSend operation.the_row
operation-send = search (parts, Term-send, Terms-send) depth 20

operation-sync : IsSync operation.the_row
operation-sync = search (parts, Term-sync, Terms-sync) depth 20

only_record-send : IsSend only_record.the_row
only_record-send = search (parts, Entry-send, Term-send, Term-sync, Records-send, Records-sync) depth 30

only_record-sync : IsSync only_record.the_row
only_record-sync = search (parts, Entry-sync, Term-send, Term-sync, Records-send, Records-sync) depth 30

operation_form-send : IsSend operation_form.the_row
operation_form-send = search (parts, only_record-send, Term-send, operation-send, operation-sync) depth 20

logged_operation-send : IsSend logged_operation.the_row
logged_operation-send = search (parts, operation_form-send) depth 20

info-send : IsSend info.the_row
info-send = search (parts, Terms-send) depth 20

info-sync : IsSync info.the_row
info-sync = search (parts, Terms-sync) depth 20

item-send : IsSend item.the_row
item-send = search (parts, SharedTerms-send, EventTerms-send) depth 20

item-sync : IsSync item.the_row
item-sync = search (parts, SharedTerms-sync, EventTerms-sync) depth 20

shared_item-send : IsSend shared_item.the_row
shared_item-send = search (parts, item-send, item-sync) depth 20

shared_item-sync : IsSync shared_item.the_row
shared_item-sync = search (parts, item-send, item-sync) depth 20

reply-send : IsSend reply.the_row
reply-send =
    let a = as_row_send atom.the_field atom_marks.the_send in let xs = as_row_send (row_field answers.the_row) Answers-send in let ss = as_row_send (row_field shared_terms.the_row) SharedTerms-send in let it = as_row_send (row_field shared_item.the_row) shared_item-send in let n = as_row_send u64-field (plain_send _ _ _ _ _) in
    variants_send reply.enum (tt, (tt, (tt, (tt, (tt, (tt, (tt, ((limit_marks.the_send, tt), (tt, ((a, tt), ((a, (Term-send, tt)), ((a, (Term-send, tt)), ((Term-send, tt), ((a, tt), ((a, tt), ((a, (Term-send, tt)), ((a, tt), ((a, tt), ((a, tt), (tt, (tt, (tt, (tt, (tt, ((n, tt), ((n, tt), (tt, ((xs, tt), (tt, (tt, ((ss, tt), (tt, ((info-send, tt), ((it, tt), ((n, tt), (tt, tt))))))))))))))))))))))))))))))))))))

reply-sync : IsSync reply.the_row
reply-sync =
    let a = as_row_sync atom.the_field atom_marks.the_sync in let xs = as_row_sync (row_field answers.the_row) Answers-sync in let ss = as_row_sync (row_field shared_terms.the_row) SharedTerms-sync in let it = as_row_sync (row_field shared_item.the_row) shared_item-sync in let n = as_row_sync u64-field (plain_sync _ _ _ _ _) in
    variants_sync reply.enum (tt, (tt, (tt, (tt, (tt, (tt, (tt, ((limit_marks.the_sync, tt), (tt, ((a, tt), ((a, (Term-sync, tt)), ((a, (Term-sync, tt)), ((Term-sync, tt), ((a, tt), ((a, tt), ((a, (Term-sync, tt)), ((a, tt), ((a, tt), ((a, tt), (tt, (tt, (tt, (tt, (tt, ((n, tt), ((n, tt), (tt, ((xs, tt), (tt, (tt, ((ss, tt), (tt, ((info-sync, tt), ((it, tt), ((n, tt), (tt, tt))))))))))))))))))))))))))))))))))))

logged-send : IsSend logged.the_row
logged-send = search (parts, reply-send, reply-sync, SharedTerms-send) depth 20

move-send : IsSend move.the_row
move-send = search (parts, logged_operation-send) depth 20

moves-send : IsSend moves.the_row
moves-send = search (parts, move-send) depth 20

replies-send : IsSend replies.the_row
replies-send = search (parts, logged-send) depth 20

schema-send : IsSend schema.the_row
schema-send = search (parts, Term-send, Terms-send) depth 20

entry-send : IsSend entry.the_row
entry-send = search (parts, moves-send, replies-send, schema-send, numbers_marks.the_send, level_marks.the_send) depth 30

rows-send : IsSend rows.the_row
rows-send = search (parts, Term-send, Term-sync, Records-send, Records-sync) depth 30

rows-sync : IsSync rows.the_row
rows-sync = search (parts, Term-send, Term-sync, Records-send, Records-sync) depth 30

further-send : IsSend further.the_row
further-send = search (parts, Term-send, Term-sync) depth 30

further-sync : IsSync further.the_row
further-sync = search (parts, Term-send, Term-sync) depth 30

index-send : IsSend index.the_row
index-send = declared_send index.the_type (search parts, (search (parts, Set-send, Set-sync, Term-send, Term-sync) depth 30, (search (parts, further-send), tt)))

index-sync : IsSync index.the_row
index-sync = declared_sync index.the_type (search parts, (search (parts, Set-send, Set-sync, Term-send, Term-sync) depth 30, (search (parts, further-sync), tt)))

change-send : IsSend change.the_row
change-send = search (parts, Term-send) depth 20

update-send : IsSend update.the_row
update-send = search (parts, change-send, only_record-send) depth 30

change-sync : IsSync change.the_row
change-sync = search (parts, Term-sync) depth 20

update-sync : IsSync update.the_row
update-sync = search (parts, change-sync, only_record-sync) depth 30

backlog-send : IsSend backlog.the_row
backlog-send = search (parts, rows-send, update-send) depth 30

backlog-sync : IsSync backlog.the_row
backlog-sync = search (parts, rows-sync, update-sync) depth 30

table-send : IsSend table.the_row
table-send = search (parts, rows-send, index-send, backlog-send, definition_marks.the_send, definition_marks.the_sync) depth 30

table-sync : IsSync table.the_row
table-sync = search (parts, rows-sync, index-sync, backlog-sync, definition_marks.the_send, definition_marks.the_sync) depth 30

catalog-send : IsSend catalog.the_row
catalog-send = search (parts, table-send, table-sync, Set-send) depth 30

bare_table-send : IsSend bare_table.the_row
bare_table-send = search (parts, rows-send, definition_marks.the_send, definition_marks.the_sync) depth 30

bare_table-sync : IsSync bare_table.the_row
bare_table-sync = search (parts, rows-sync, definition_marks.the_send, definition_marks.the_sync) depth 30

bare_catalog-send : IsSend bare_catalog.the_row
bare_catalog-send = search (parts, bare_table-send, bare_table-sync) depth 30

overlay-send : IsSend levels.the_row
overlay-send = search (parts, update-send, Term-send, Term-sync, Records-send, Records-sync) depth 30

store-send : IsSend store.the_row
store-send = search (parts, move-send, logged-send, overlay-send) depth 30

lock-send : IsSend lock.the_row
lock-send = search (parts, Term-send) depth 20

key_lock-send : IsSend key_lock.the_row
key_lock-send = search (parts, Term-send) depth 20

numbered_locks-send : IsSend numbered_locks.the_row
numbered_locks-send = search (parts, key_lock-send) depth 30

first_locks-send : IsSend first_locks.the_row
first_locks-send = search (parts, numbered_locks-send) depth 30

tied_keys-send : IsSend tied_keys.the_row
tied_keys-send = search (parts, Term-send, holders_marks.the_send) depth 30

keys-send : IsSend keys.the_row
keys-send = search (parts, first_locks-send, tied_keys-send) depth 30

on_table-send : IsSend on_table.the_row
on_table-send = search (parts, keys-send, holders_marks.the_send) depth 30

lock_tables-send : IsSend lock_tables.the_row
lock_tables-send = search (parts, on_table-send) depth 30

places-send : IsSend places.the_row
places-send = search (parts, on_table-send, lock_tables-send) depth 30

locks-send : IsSend locks.the_row
locks-send = search (parts, lock-send, places-send) depth 30

ages-send : IsSend ages.the_row
ages-send = search (parts, locks-send, lock-send) depth 30

transaction-send : IsSend transaction.the_row
transaction-send = search (parts, store-send) depth 20

request-send : IsSend request.the_row
request-send = search (parts, operation-send) depth 20

base-send : IsSend base.the_row
base-send = search (parts, bare_catalog-send, subscription_marks.the_send) depth 30

folded-send : IsSend folded.the_row
folded-send = search (parts, entry-send, bare_catalog-send) depth 30

journal-send : IsSend journal.the_row
journal-send = search (parts, base-send, entry-send, buffer_marks.the_send, frees, heap_send) depth 40

module _ (P : RattleType) (g : Ghosts P.Denot) where
  session-send : IsSend P → IsSend (session.the_row P transaction.the_row g)
  session-send p =
      view_send _ _ _ _ _ (
      declared_send (session_inside.the_type P transaction.the_row g) (
        search parts,
        (search (parts, transaction-send) depth 20, (search (parts, watched_marks.the_send) depth 20, (search parts depth 20, (search (parts, p), tt)))),
      )
      )

  subs-send : IsSend P → IsSend (subs.the_row P transaction.the_row g)
  subs-send p = view_send _ _ _ _ _ (declared_send (subs_inside.the_type P transaction.the_row g) (search (parts, session-send p) depth 20, tt))

  machine-send : IsSend P → IsSend (machine.the_row P g)
  machine-send p =
      declared_send (machine.the_type P g) (
        search parts,
        (
          search (parts, catalog-send),
          (
            as_row_send (subs.the_field P transaction.the_row g) (subs-send p),
            (
              search (parts, ages-send),
              (search (parts, request-send) depth 20, (search parts, (search parts, (search parts, (search (parts, limits_marks.the_send), (search (parts, catalog-send) depth 20, tt)))))),
            ),
          ),
        ),
      )

  core-send : IsSend P → IsSend (core.the_row P g)
  core-send p = search (parts, machine-send) depth 30

module _ (H : RattleType) (names : naming.Ghosts H.Denot) (rooms : host.Ghosts H.Denot) (waits : waiting.Ghosts H.Denot) (clones : cloning.Ghosts H.Denot) where
  log-send : IsSend H → IsSend (log.the_row H names)
  log-send h =
      view_send _ _ _ _ _ (
      declared_send (log_inside.the_type H names) (search parts, (search (parts, register_marks.the_send), (search (parts, prefix_marks.the_send), tt)))
      )

  pub Book-send : IsSend H → IsSend (book.the_row H names rooms waits clones)
  Book-send h =
      let posts = session_posts.ghosts H rooms session_posts.no_dict names session_posts.no_dict waits session_posts.no_dict clones session_posts.no_dict in
      view_send _ _ _ _ _ (declared_send (inside.the_type H names rooms waits clones) (
        search parts,
        (
          search parts,
          (
            search (parts, register_marks.the_send),
            (search (parts, prefix_marks.the_send), (as_row_send (log.the_field H names) (log-send h), (as_row_send (core.the_field (channel_post.the_row H names) posts) (core-send (channel_post.the_row H names) posts (ChannelPost-send H names h)), (search (parts, journal-send) depth 20, (search (parts, folded-send) depth 20, (search parts, tt)))))),
          ),
        ),
      ))

  pub Shared-sync : IsSend H → IsSync (shared.the_row H names rooms waits clones)
  Shared-sync h = search (parts, crosses, Book-send, prefix_marks.the_sync) depth 30
