use Rattle.std.proofs.Common.{ap, ◌∙◌, not, rules}
use Rattle.std.specs.Prelude.{◌==◌}
use Rattle.std.proofs.lemmas.Fn.{filter_same}
use Rattle.tab_waitdie.specs.declared.waiting.Waiting.{Waiting}
use Rattle.tab_model.specs.Ages.{Owned}
use Rattle.tab_waitdie.specs.Queue.{owned, queued}
use Rattle.tab_waitdie.proofs.Places.{map_filtered}
use Rattle.tab_waitdie.proofs.waiting.drop_requests.Goals as goal

pub returns : goal.returns
returns c =
    let is = filter_same _ (λ (w : Waiting). not (w.age == c.args.age)) _ (λ w b f t. search rules) _ _ c.retain.ensures.filtered in
    ap queued is ∙ map_filtered owned (λ (r : Owned). not (r.0 == c.args.age)) c.args.queue.now.items
