-- A retry: the request that it is about, whether it is free, and what moving it leaves.
use Rattle.std.proofs.Common.{◌≡◌, ℕ, ◌<◌, List, [], ◌∷◌, ◌++◌, Bool, true, not, sym, ap, ◌∙◌, subst, Option, None, Some, refl, take, length, get_or, arith}
use Rattle.std.specs.Prelude.{IfSome}
use Rattle.std.specs.List.{list_any}
use Rattle.tab_model.specs.declared.data.Lock as code
use Rattle.tab_model.specs.Ages.{Owned, Ages, opposes, before, request_of, without, can_retry, Rises}
use Rattle.tab_locks.specs.Placed.{placed}
use Rattle.tab_locks.specs.Plain.{lock_of}
use Rattle.tab_waitdie.specs.declared.waiting.Waiting.{Waiting}
use Rattle.tab_waitdie.specs.Queue.{owned, queued, ages_of}
use Rattle.tab_waitdie.specs.Decisions.{ages}
use Rattle.tab_waitdie.proofs.Rising.{found_age, granted_rises}

-- a grant whose request then goes
pub granted_and_gone : (old mid last : Ages) (age : ℕ) → IfSome (request_of age old.queue) (λ r. mid ≡ ages (placed r old.held) old.queue) → last ≡ ages mid.held (without age mid.queue)
    → IfSome (request_of age old.queue) (λ r. last ≡ ages (placed r old.held) (without r.0 old.queue))
granted_and_gone old mid last age granted gone = by (request_of age old.queue) refl granted
  where
    by : (o : Option Owned) → request_of age old.queue ≡ o → IfSome o (λ r. mid ≡ ages (placed r old.held) old.queue) → IfSome o (λ r. last ≡ ages (placed r old.held) (without r.0 old.queue))
    by None e h = tt
    by (Some r) e h = gone ∙ (λ i. ages (h i).held (without age (h i).queue)) ∙ ap (λ n. ages (placed r old.held) (without n old.queue)) (sym (found_age age old.queue r e))

-- at this place stands the first request of this age
pub record IsPlace (age at : ℕ) (ws : List Waiting) : Type 0 where
  pub within : at < length ws
  pub earlier : before age (queued ws) ≡ queued (take at ws)
  pub request : (d : Waiting) → request_of age (queued ws) ≡ Some (owned (get_or ws at d))

-- b says whether the request at this place is free
pub record TellsFree (b : Bool) (held : List Owned) (at : ℕ) (ws : List Waiting) : Type 0 where
  pub told : (d : Waiting) → b ≡ not (list_any (opposes (owned (get_or ws at d))) (held ++ queued (take at ws)))

pub some_item : (ws : List Waiting) (i : ℕ) → i < length ws → Waiting
some_item [] i lt = absurd (omega arith)
some_item (x ∷ ws) i lt = x

module _ (age at : ℕ) (held : List Owned) (ws : List Waiting) (place : IsPlace age at ws) where
  told_at : (b : Bool) (d : Waiting) → TellsFree b held at ws → b ≡ can_retry (ages_of held ws) (owned (get_or ws at d))
  told_at b d free =
      let w = get_or ws at d in
      let age_is = found_age age (queued ws) (owned w) (place.request d) in
      free.told d ∙ ap (λ earlier. not (list_any (opposes (owned w)) (held ++ earlier))) (sym (ap (λ n. before n (queued ws)) age_is ∙ place.earlier))

  pub told : (b : Bool) → TellsFree b held at ws → IfSome (request_of age (queued ws)) (λ r. b ≡ can_retry (ages_of held ws) r)
  told b free =
      let d = some_item ws at place.within in
      let P : Option Owned → Type 0 = λ o. IfSome o (λ r. b ≡ can_retry (ages_of held ws) r) in
      subst P (sym (place.request d)) (told_at b d free)

  module _ (w : Waiting) (item : w ≡ get_or ws at w) (l : code.Lock) (copied : l ≡ w.lock) where
    is_request : request_of age (queued ws) ≡ Some (owned w)
    is_request = place.request w ∙ ap (λ v. Some (owned v)) (sym item)

    age_is : w.age ≡ age
    age_is = found_age age (queued ws) (owned w) is_request

    moves : (age, lock_of l) ≡ owned w
    moves = λ i. (sym age_is i, lock_of (copied i))

    pub granted : IfSome (request_of age (queued ws)) (λ r. can_retry (ages_of held ws) r ≡ true) → Rises (ages_of held ws) → Rises (ages (placed (age, lock_of l) held) (queued ws))
    granted free h =
        let P : Owned → Type 0 = λ x. Rises (ages (placed x held) (queued ws)) in
        let Q : Option Owned → Type 0 = λ o. IfSome o (λ r. can_retry (ages_of held ws) r ≡ true) in
        subst P (sym moves) (granted_rises (ages_of held ws) age (owned w) is_request (subst Q is_request free) h)

    pub grants : IfSome (request_of age (queued ws)) (λ r. ages (placed (age, lock_of l) held) (queued ws) ≡ ages (placed r held) (queued ws))
    grants =
        let P : Option Owned → Type 0 = λ o. IfSome o (λ r. ages (placed (age, lock_of l) held) (queued ws) ≡ ages (placed r held) (queued ws)) in
        subst P (sym is_request) (λ i. ages (placed (moves i) held) (queued ws))
