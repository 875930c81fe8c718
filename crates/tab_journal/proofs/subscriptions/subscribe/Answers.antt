use Rattle.std.proofs.Common.{not, rules, ap, ◌∙◌, ◌++◌, ◌∷◌, []}
use Rattle.std.specs.List.{filter}
use Rattle.std.proofs.lemmas.Fn.{filter_same}
use Rattle.tab_model.specs.History.{Subscription, is_of}
use Rattle.tab_journal.proofs.subscriptions.subscribe.Goals as goal

pub returns-clause-ok : goal.returns-clause-ok
returns-clause-ok c =
    let test = λ (x : Subscription). not (is_of c.args.session c.args.table.now x) in
    let kept = filter_same _ test _ (λ x b f t. search rules) _ _ c.retain.ensures.filtered ∙ ap (filter test) c.in_ok-reserve.ensures.items in
    let new : Subscription = record { session = c.args.session; table = c.args.table.now; level = c.args.level } in
    c.push_reserved.ensures.items ∙ (λ i. kept i ++ record { session = c.args.session; table = c.in_ok-name.ensures.ok i; level = c.args.level } ∷ [])
