use Rattle.std.proofs.Common.{rules}
use Rattle.std.specs.Option.{option_copied}
use Rattle.std.proofs.lemmas.Fn.{filter_same}
use Rattle.tab_model.specs.History.{outlasts}
use Rattle.tab_journal.proofs.subscriptions.keep.Goals as goal

pub returns : goal.returns
returns c = filter_same _ (outlasts c.args.overflowed.now (option_copied c.args.gone)) _ (λ x b f t. search rules) _ _ c.retain.ensures.filtered
