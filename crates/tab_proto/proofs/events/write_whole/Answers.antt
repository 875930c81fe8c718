use Rattle.tab_proto.specs.Replies.{item_term}
use Rattle.tab_proto.proofs.EventsLemmas.{unsent_term}
use Rattle.tab_proto.proofs.events.write_whole.Goals as goal

pub returns-clause-err : goal.returns-clause-err
returns-clause-err g c = unsent_term _ _ (item_term c.args.item.now) _ _ _ _ c.item_outline.ensures.is c.write_outline.ensures.err
