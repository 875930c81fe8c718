use Rattle.std.proofs.Common.{◌∙◌}
use Rattle.tab_session.proofs.ServedLemmas.{handed_after}
use Rattle.tab_session.proofs.serving.put.Goals as goal

pub returns-in_ok-give_all-in-Err-clause-handed : goal.returns-in_ok-give_all-in-Err-clause-handed
returns-in_ok-give_all-in-Err-clause-handed g c =
    handed_after c.args.answer.now _ _ _ _ _ _ c.write_answer.result (c.deref-in-Err.ensures.value ∙ c.in-Err.ensures.same) c.in_ok-give_all-in-Err.ensures.ok c.write_answer.ensures.handed c.clear-in-Err.ensures.items
