use Rattle.std.proofs.Common.{◌≡◌, ◌++◌, ◌&&◌, subst, List, false}
use Rattle.std.specs.Prelude.{◌==◌, MatchOption}
use Rattle.std.specs.List.{list_any}
use Rattle.tab_model.specs.Ages.{Ages, Owned, before, opposes, request_of}
use Rattle.tab_waitdie.specs.declared.waiting.Waiting.{Waiting}
use Rattle.tab_waitdie.proofs.Retrying.{IsPlace}
use Rattle.tab_waitdie.proofs.Waited.{IsTold, waits_in}
use Rattle.tab_waitdie.proofs.ages.Ages.waits_for.Goals as goal

pub returns : goal.returns
returns c =
    let ws = c.self.inside.queue.items in
    let held = c.self.inside.locks in
    let at = c.place_of-at.result in
    let b = c.waits_at.result in
    let place : IsPlace c.args.age at ws = subst (λ (vs : List Waiting). IsPlace c.args.age at vs) c.deref.ensures.value (record { within = c.place_of-at.ensures.within; earlier = c.place_of-at.ensures.before; request = c.place_of-at.ensures.request }) in
    let told : IsTold b at c.args.other c.of.result.now ws = subst (λ (vs : List Waiting). IsTold b at c.args.other c.of.result.now vs) c.deref-2.ensures.value c.waits_at.ensures in
    subst (λ (g : Ages). MatchOption (request_of c.args.age g.queue) (b ≡ false) (λ r. b ≡ list_any (λ (x : Owned). opposes r x && (x.0 == c.args.other)) (g.held ++ before c.args.age g.queue))) c.self.view_is
    (waits_in c.args.age at c.args.other held ws c.of.result.now b place c.of.ensures told)
