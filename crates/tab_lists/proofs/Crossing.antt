-- Lists of terms and answers may cross threads and be shared by them, as what they hold may. The ring of answers has the law
-- where each of its layers does.
use denote.Param.Send.{IsSend, IsSync, sendable}
use denote.Param.SendFields.{as_row_send, as_row_sync, declared_send, declared_sync, variants_send, variants_sync}
use Rattle.std.proofs.Crossing.{Vec-send, Vec-sync, Arc-send, Arc-sync}
use Rattle.tab_map.proofs.Crossing.{Entry-send, Entry-sync, Map-send, Map-sync, Set-send, Set-sync}
use Rattle.tab_records.proofs.Crossing.{Records-send, Records-sync}
use Rattle.tab_term.proofs.Crossing.{Term-send, Term-sync, Terms-send, Terms-sync}
use Rattle.tab_lists.proofs.answers.Answers.TheLaws.TheKnot.{send-Answers, sync-Answers}
use Rattle.tab_term.proofs.atom.Atom.TheSendSync as atom_marks
use Rattle.tab_lists.specs.contracts.answers.Answers as answers
use Rattle.tab_lists.specs.contracts.events.EventTerm as event_term
use Rattle.tab_lists.specs.contracts.events.EventTerms as event_terms
use Rattle.tab_lists.specs.contracts.events.EventsForm as events_form
use Rattle.tab_lists.specs.contracts.events.SharedEvent as shared_event
use Rattle.tab_lists.specs.contracts.condition.Condition as condition
use Rattle.tab_lists.specs.contracts.query.Query as query
use Rattle.tab_lists.specs.contracts.query.Scope as scope
use Rattle.tab_lists.specs.contracts.query.AtKeys as at_keys
use Rattle.tab_lists.specs.contracts.snapshot.Snapshot as snapshot
use Rattle.tab_lists.specs.contracts.shared_terms.Form as form
use Rattle.tab_lists.specs.contracts.shared_terms.SharedTerms as shared_terms

Condition-send : IsSend condition.the_row
Condition-send = search (sendable, declared_send, as_row_send, variants_send, Term-send) depth 20

Condition-sync : IsSync condition.the_row
Condition-sync = search (sendable, declared_sync, as_row_sync, variants_sync, Term-sync) depth 20

Snapshot-send : IsSend snapshot.the_row
Snapshot-send = search (sendable, Map-send, declared_send, as_row_send, Term-send, Term-sync, Records-send, Records-sync) depth 20

Snapshot-sync : IsSync snapshot.the_row
Snapshot-sync = search (sendable, Map-sync, declared_sync, as_row_sync, Term-send, Term-sync, Records-send, Records-sync) depth 20

AtKeys-send : IsSend at_keys.the_row
AtKeys-send = search (Set-send, declared_send, as_row_send, Term-send, Term-sync, Snapshot-send) depth 20

AtKeys-sync : IsSync at_keys.the_row
AtKeys-sync = search (Set-sync, declared_sync, as_row_sync, Term-send, Term-sync, Snapshot-sync) depth 20

Scope-send : IsSend scope.the_row
Scope-send = search (sendable, Entry-send, declared_send, as_row_send, variants_send, Term-send, Term-sync, Records-send, Records-sync, Snapshot-send, AtKeys-send) depth 20

Scope-sync : IsSync scope.the_row
Scope-sync = search (sendable, Entry-sync, declared_sync, as_row_sync, variants_sync, Term-send, Term-sync, Records-send, Records-sync, Snapshot-sync, AtKeys-sync) depth 20

Query-send : IsSend query.the_row
Query-send = search (sendable, declared_send, as_row_send, Scope-send, Condition-send) depth 20

Query-sync : IsSync query.the_row
Query-sync = search (sendable, declared_sync, as_row_sync, Scope-sync, Condition-sync) depth 20

Form-send : IsSend form.the_row
Form-send = search (sendable, Entry-send, Arc-send, declared_send, as_row_send, variants_send, Term-send, Term-sync, Terms-send, Records-send, Records-sync, Snapshot-send, Query-send, Query-sync) depth 20

Form-sync : IsSync form.the_row
Form-sync = search (sendable, Entry-sync, Arc-sync, declared_sync, as_row_sync, variants_sync, Term-send, Term-sync, Terms-sync, Records-send, Records-sync, Snapshot-sync, Query-send, Query-sync) depth 20

pub SharedTerms-send : IsSend shared_terms.the_row
SharedTerms-send = search (sendable, Arc-send, declared_send, as_row_send, variants_send, Form-send, Form-sync) depth 20

pub SharedTerms-sync : IsSync shared_terms.the_row
SharedTerms-sync = search (sendable, Arc-sync, declared_sync, as_row_sync, variants_sync, Form-send, Form-sync) depth 20

pub Answers-send : IsSend answers.the_row
Answers-send = send-Answers Vec-send SharedTerms-send Term-send

pub Answers-sync : IsSync answers.the_row
Answers-sync = sync-Answers Vec-sync SharedTerms-sync Term-sync

EventTerm-send : IsSend event_term.the_row
EventTerm-send = search (sendable, declared_send, as_row_send, variants_send, Term-send, atom_marks.the_send, SharedTerms-send) depth 20

EventTerm-sync : IsSync event_term.the_row
EventTerm-sync = search (sendable, declared_sync, as_row_sync, variants_sync, Term-sync, atom_marks.the_sync, SharedTerms-sync) depth 20

SharedEvent-send : IsSend shared_event.the_row
SharedEvent-send = search (sendable, Arc-send, declared_send, as_row_send, EventTerm-send, EventTerm-sync) depth 20

SharedEvent-sync : IsSync shared_event.the_row
SharedEvent-sync = search (sendable, Arc-sync, declared_sync, as_row_sync, EventTerm-send, EventTerm-sync) depth 20

EventsForm-send : IsSend events_form.the_row
EventsForm-send = search (sendable, Vec-send, declared_send, as_row_send, variants_send, SharedEvent-send) depth 20

EventsForm-sync : IsSync events_form.the_row
EventsForm-sync = search (sendable, Vec-sync, declared_sync, as_row_sync, variants_sync, SharedEvent-sync) depth 20

pub EventTerms-send : IsSend event_terms.the_row
EventTerms-send = search (sendable, declared_send, as_row_send, EventsForm-send) depth 20

pub EventTerms-sync : IsSync event_terms.the_row
EventTerms-sync = search (sendable, declared_sync, as_row_sync, EventsForm-sync) depth 20
