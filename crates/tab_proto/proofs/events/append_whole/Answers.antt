use Rattle.tab_proto.specs.Replies.{item_term}
use Rattle.tab_proto.proofs.EventsLemmas.{unadded_term}
use Rattle.tab_proto.proofs.events.append_whole.Goals as goal

pub returns-clause-err : goal.returns-clause-err
returns-clause-err c =
    unadded_term _ _ (item_term c.args.item.now) _ _ c.item_outline.ensures.is c.append_outline.ensures.too_long c.append_outline.ensures.err
