use Rattle.std.proofs.Common.{◌≡◌, sym, subst, true, List}
use Rattle.std.specs.Prelude.{IfSome}
use Rattle.tab_model.specs.Ages.{Ages, Rises, request_of, can_retry}
use Rattle.tab_locks.specs.Placed.{placed}
use Rattle.tab_waitdie.specs.declared.waiting.Waiting.{Waiting}
use Rattle.tab_waitdie.specs.Queue.{ages_of, queued}
use Rattle.tab_waitdie.specs.Decisions.{ages}
use Rattle.tab_waitdie.proofs.Retrying.{IsPlace, granted, grants}
use Rattle.tab_waitdie.proofs.ages.Ages.grant.Goals as goal

pub invariant_of-self-2 : goal.invariant_of-self-2
invariant_of-self-2 c =
    let ws = c.self.inside.queue.items in
    let held = c.self.inside.locks in
    let at = c.place_of-at.result in
    let place : IsPlace c.args.age at ws = subst (λ (vs : List Waiting). IsPlace c.args.age at vs) c.deref.ensures.value (record { within = c.place_of-at.ensures.within; earlier = c.place_of-at.ensures.before; request = c.place_of-at.ensures.request }) in
    let free = subst (λ (g : Ages). IfSome (request_of c.args.age g.queue) (λ r. can_retry g r ≡ true)) (sym c.self.view_is) c.requires.free in
    let rises = granted c.args.age at held ws place c.index.result.now c.index.ensures c.in_ok-lock.lock c.in_ok-lock.ensures free c.self.invariant in
    subst (λ (g : Ages). Rises g) (λ i. ages (sym c.in_ok-hold.ensures.ok i) (queued ws)) rises

pub returns-clause-ok : goal.returns-clause-ok
returns-clause-ok c =
    let ws = c.self.inside.queue.items in
    let held = c.self.inside.locks in
    let at = c.place_of-at.result in
    let place : IsPlace c.args.age at ws = subst (λ (vs : List Waiting). IsPlace c.args.age at vs) c.deref.ensures.value (record { within = c.place_of-at.ensures.within; earlier = c.place_of-at.ensures.before; request = c.place_of-at.ensures.request }) in
    let left = λ (g : Ages). IfSome (request_of c.args.age (queued ws)) (λ r. g ≡ ages (placed r held) (queued ws)) in
    let new = ages_of c.hold.new.self ws in
    let right = λ (g : Ages). IfSome (request_of c.args.age g.queue) (λ r. new ≡ ages (placed r g.held) g.queue) in
    subst right c.self.view_is (subst left (λ i. ages (sym c.in_ok-hold.ensures.ok i) (queued ws)) (grants c.args.age at held ws place c.index.result.now c.index.ensures c.in_ok-lock.lock c.in_ok-lock.ensures))
