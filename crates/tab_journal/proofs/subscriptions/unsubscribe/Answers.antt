use Rattle.std.proofs.Common.{not, rules}
use Rattle.std.proofs.lemmas.Fn.{filter_same}
use Rattle.tab_model.specs.History.{is_of}
use Rattle.tab_journal.proofs.subscriptions.unsubscribe.Goals as goal

pub returns : goal.returns
returns c = filter_same _ (λ x. not (is_of c.args.session c.args.table.now x)) _ (λ x b f t. search rules) _ _ c.retain.ensures.filtered
