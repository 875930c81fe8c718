use Rattle.std.proofs.Common.{not, rules}
use Rattle.std.specs.Prelude.{◌==◌}
use Rattle.std.proofs.lemmas.Fn.{filter_same}
use Rattle.tab_model.specs.History.{Subscription}
use Rattle.tab_journal.proofs.subscriptions.forget.Goals as goal

pub returns : goal.returns
returns c = filter_same _ (λ (x : Subscription). not (x.session == c.args.session)) _ (λ x b f t. search rules) _ _ c.retain.ensures.filtered
