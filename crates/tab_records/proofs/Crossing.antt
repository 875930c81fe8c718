-- Records may cross threads and be shared by them, as terms may.
use denote.Param.Send.{IsSend, IsSync, sendable}
use denote.Param.SendFields.{as_row_send, as_row_sync, declared_send, declared_sync, variants_send, variants_sync}
use Rattle.std.proofs.Crossing.{Arc-send, Arc-sync}
use Rattle.tab_map.proofs.Crossing.{Entry-send, Entry-sync, Map-send, Map-sync}
use Rattle.tab_term.proofs.Crossing.{Term-send, Term-sync}
use Rattle.tab_records.specs.contracts.numbered.Numbered as numbered
use Rattle.tab_records.specs.contracts.numbered.Numbers as numbers
use Rattle.tab_records.specs.contracts.records.Form as form
use Rattle.tab_records.specs.contracts.records.Records as records

Numbers-send : IsSend numbers.the_row
Numbers-send = search (sendable, Map-send, declared_send, as_row_send, Term-send, Term-sync) depth 20

Numbers-sync : IsSync numbers.the_row
Numbers-sync = search (sendable, Map-sync, declared_sync, as_row_sync, Term-send, Term-sync) depth 20

Numbered-send : IsSend numbered.the_row
Numbered-send = search (sendable, Arc-send, Map-send, Entry-send, Entry-sync, declared_send, as_row_send, variants_send, Term-send, Term-sync, Numbers-send, Numbers-sync) depth 30 fits 10000

Numbered-sync : IsSync numbered.the_row
Numbered-sync = search (sendable, Arc-sync, Map-sync, Entry-send, Entry-sync, declared_sync, as_row_sync, variants_sync, Term-send, Term-sync, Numbers-send, Numbers-sync) depth 30 fits 10000

Form-send : IsSend form.the_row
Form-send = search (sendable, declared_send, as_row_send, variants_send, Term-send, Numbered-send) depth 20

Form-sync : IsSync form.the_row
Form-sync = search (sendable, declared_sync, as_row_sync, variants_sync, Term-sync, Numbered-sync) depth 20

pub Records-send : IsSend records.the_row
Records-send = search (sendable, declared_send, as_row_send, variants_send, Form-send) depth 20

pub Records-sync : IsSync records.the_row
Records-sync = search (sendable, declared_sync, as_row_sync, variants_sync, Form-sync) depth 20
