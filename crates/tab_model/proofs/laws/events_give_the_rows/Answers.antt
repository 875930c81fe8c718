use Rattle.tab_model.proofs.EventsGiveTheRows.{since_applies, dump_applies}
use Rattle.tab_model.proofs.laws.events_give_the_rows.Goals as goal

pub returns-clause-since : goal.returns-clause-since
returns-clause-since c = since_applies

pub returns-clause-dump : goal.returns-clause-dump
returns-clause-dump c = dump_applies
