use Rattle.std.proofs.Common.{not, rules}
use Rattle.std.specs.Str.{bytes_eq}
use Rattle.std.proofs.lemmas.Fn.{filter_same}
use Rattle.tab_model.specs.State.{Watch}
use Rattle.tab_subs.proofs.watched.forget.Goals as goal

pub returns : goal.returns
returns c = filter_same _ (λ (w : Watch). not (bytes_eq w.table c.args.table.now)) _ (λ w b f t. search rules) _ _ c.retain.ensures.filtered
