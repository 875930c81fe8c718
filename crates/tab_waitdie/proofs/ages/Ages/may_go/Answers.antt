use Rattle.std.proofs.Common.{◌≡◌, subst, List}
use Rattle.std.specs.Prelude.{IfSome}
use Rattle.tab_model.specs.Ages.{Ages, request_of, can_retry}
use Rattle.tab_waitdie.specs.declared.waiting.Waiting.{Waiting}
use Rattle.tab_waitdie.proofs.Retrying.{IsPlace, TellsFree, told}
use Rattle.tab_waitdie.proofs.ages.Ages.may_go.Goals as goal

pub returns : goal.returns
returns c =
    let ws = c.self.inside.queue.items in
    let held = c.self.inside.locks in
    let at = c.place_of-at.result in
    let place : IsPlace c.args.age at ws = subst (λ (vs : List Waiting). IsPlace c.args.age at vs) c.deref.ensures.value (record { within = c.place_of-at.ensures.within; earlier = c.place_of-at.ensures.before; request = c.place_of-at.ensures.request }) in
    let free : TellsFree c.is_free.result held at ws = subst (λ (vs : List Waiting). TellsFree c.is_free.result held at vs) c.deref-2.ensures.value (record { told = c.is_free.ensures }) in
    let P = λ (g : Ages). IfSome (request_of c.args.age g.queue) (λ r. c.is_free.result ≡ can_retry g r) in
    subst P c.self.view_is (told c.args.age at held ws place c.is_free.result free)
