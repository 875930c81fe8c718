-- What a run over payloads leaves: it leads from state to state, an answer follows from its payload, and a session alone never waits.
use Rattle.std.proofs.Common.{◌≡◌, ◌≢◌, ℕ, ℤ, pos, suc, List, [], ◌∷◌, length, refl, sym, ap, subst, ◌∙◌, inl, inr, Bool, true, false, Option, Some, Result, Ok, Err}
use Rattle.std.specs.Prelude.{◌==◌, if◌then◌else◌}
use Rattle.std.proofs.lemmas.Bool.{false≢true}
use Rattle.tab_term.specs.Data.{PlainTerm}
use Rattle.tab_etf.specs.Reading.{whole}
use Rattle.tab_etf.specs.declared.fault.Stop.{Stop}
use Rattle.tab_model.specs.declared.data.Command.{Command}
use Rattle.tab_model.specs.declared.data.Command.TheVariants as command
use Rattle.tab_model.specs.declared.data.Reply.{Reply}
use Rattle.tab_model.specs.declared.data.Reply.TheVariants as reply
use Rattle.tab_model.specs.State.{State}
use Rattle.tab_model.specs.declared.ask.Ask.TheVariants.{Join, Leave, Retry, Take, Do as DoCommand}
use Rattle.tab_model.specs.Outcome.{Ask, Outcome, outcome}
use Rattle.tab_model.specs.Refusals.{IsSole}
use Rattle.tab_model.specs.Run.{item_of, delivered_by, JoinsEmpty}
use Rattle.tab_model.proofs.SessionAlone.{stays_sole, no_wait, no_restart}
use Rattle.tab_proto.specs.Requests.{Request, number_in, IsNumbered}
use Rattle.tab_proto.proofs.RequestsApart.{requests_apart}
use Rattle.tab_session.specs.declared.answered.PayloadReply.{PayloadReply}
use Rattle.tab_session.specs.StepsMade.{IsStepMade, StepMadeOrRefused}
use Rattle.tab_session.specs.OneSessions.{Ran, IsDriven}
use Rattle.tab_session.specs.Bounded.{IsBounded}
use Rattle.tab_session.specs.AnsweredPayloads.{ask_for, is_step, IsDrivenRequest, IsMadeOf, IsNumberOf, AnsweredTerm, AnsweredRead, Answered, AnsweredAll, NoneRefused, NoneWaits, AreOf, taken_by, IsOf}
use Rattle.tab_session.specs.Replays.{IsRun}
use Rattle.tab_session.specs.Accounts.{nothing_done, of_step, of_calls, of_request, of_read, of_answer, of_all, account}
use Rattle.tab_oneshot.specs.Calls.{Call, Asked, Waited, Again}
use Rattle.tab_oneshot.proofs.LastReplies.{is_handed, AllHanded, Awaited, Answers, last_reply, all_handed}
use Rattle.tab_session.proofs.BoundedSteps.{JoinsBounded, stays_bounded, is_settled}
use Rattle.tab_session.proofs.DriverSteps.{no_item}
use Rattle.tab_session.proofs.DriverOnce.{driven_once}
use Rattle.tab_session.proofs.AccountsLemmas.{Leads, stays, steps, then_leads, leads_as}
use Rattle.std.proofs.lemmas.List.Elements.{All-nil, All-cons, All-head, All-tail}

-- ---- a one-shot's driver

-- a reply that gives no item
abbrev GivesNone : Reply → Type 0
GivesNone r = item_of r ≡ []

none_taken : (m n : ℕ) (r : Reply) → GivesNone r → delivered_by m n r ≡ []
none_taken m n r e = cases (m == n)
  where
    cases : (b : Bool) → (if b then item_of r else []) ≡ []
    cases true = e
    cases false = refl

gives_none : (σ μ : State) (n : ℕ) (c : Command) (r : Reply) → is_handed c ≡ true → StepMadeOrRefused σ n (DoCommand c) r μ → GivesNone r
gives_none σ μ n c r h (inl made) = ap item_of (sym (ap (λ o. Outcome.reply o) made.made)) ∙ no_item σ made.over n c h
gives_none σ μ n c r h (inr (takes, none, same)) = ap item_of none

call_leads : (σ μ : State) (n : ℕ) (c : Command) (r : Reply) → is_handed c ≡ true → (one : StepMadeOrRefused σ n (DoCommand c) r μ) → Leads σ μ (of_step σ n (DoCommand c) r μ one) (λ m. [])
call_leads σ μ n c r h (inl made) = leads_as σ μ _ (λ m. delivered_by m n r) (λ m. []) (λ m. none_taken m n r (gives_none σ μ n c r h (inl made))) (steps σ μ n (DoCommand c) r made tt)
call_leads σ μ n c r h (inr (takes, none, same)) = stays σ μ same

calls_lead : (n : ℕ) (σ μ : State) (calls : List Call) → AllHanded calls → (ran : Ran n σ calls μ) → Leads σ μ (of_calls n σ calls μ ran) (λ m. [])
calls_lead n σ μ [] h ran = stays σ μ ran
calls_lead n σ μ (Asked c r ∷ calls) (h, hs) (ρ, one, ran) = then_leads σ ρ μ (of_step σ n (DoCommand c) r ρ one) (of_calls n ρ calls μ ran) (λ m. []) (λ m. []) (call_leads σ ρ n c r h one) (calls_lead n ρ μ calls hs ran)
calls_lead n σ μ (Waited w ∷ calls) h (e, ran) = calls_lead n σ μ calls h ran
calls_lead n σ μ (Again ∷ calls) h ran = calls_lead n σ μ calls h ran

calls_give_none : (n : ℕ) (σ μ : State) (calls : List Call) → AllHanded calls → Ran n σ calls μ → Answers GivesNone calls
calls_give_none n σ μ [] h ran = tt
calls_give_none n σ μ (Asked c r ∷ calls) (h, hs) (ρ, one, ran) = (gives_none σ ρ n c r h one, calls_give_none n ρ μ calls hs ran)
calls_give_none n σ μ (Waited w ∷ calls) h (e, ran) = (subst (λ (x : Option Reply). Awaited GivesNone x) (sym e) tt, calls_give_none n σ μ calls h ran)
calls_give_none n σ μ (Again ∷ calls) h ran = calls_give_none n σ μ calls h ran

driven_leads : (σ μ : State) (n : ℕ) (c : Command) (r : Reply) (d : IsDriven σ n c r μ) → Leads σ μ (of_calls n σ d.calls μ d.ran) (λ m. delivered_by m n r)
driven_leads σ μ n c r d = leads_as σ μ _ (λ m. []) (λ m. delivered_by m n r) (λ m. sym (none_taken m n r none)) (calls_lead n σ μ d.calls handed d.ran)
  where
    handed : AllHanded d.calls
    handed = all_handed c d.calls r d.one_shot

    none : GivesNone r
    none = last_reply GivesNone (record { no_memory = refl; no_wait = refl; no_more = refl; terms = λ ts. refl }) c d.calls r d.one_shot (calls_give_none n σ μ d.calls handed d.ran)

-- an answer that changes nothing
quiet_leads : (σ μ : State) (x : PayloadReply) → μ ≡ σ → GivesNone x.reply → Leads σ μ nothing_done (λ m. delivered_by m x.session x.reply)
quiet_leads σ μ x same e = leads_as σ μ nothing_done (λ m. []) (λ m. delivered_by m x.session x.reply) (λ m. sym (none_taken m x.session x.reply e)) (stays σ μ same)

-- ---- an answer follows from its payload and the state

abbrev value_of : Option ℤ → ℕ
value_of (Some (pos n)) = n
value_of z = 0

number_once : (t : PlainTerm) (m n : ℕ) → IsNumberOf t m → IsNumberOf t n → m ≡ n
number_once t m n (inl h) (inl k) = h.0 ∙ sym k.0
number_once t m n (inl h) (inr k) = absurd (h.1 n k.0 k.1)
number_once t m n (inr h) (inl k) = absurd (k.1 m h.0 h.1)
number_once t m n (inr h) (inr k) = ap value_of (sym h.1 ∙ k.1)

answer_of : (x y : PayloadReply) → x.session ≡ y.session → x.reply ≡ y.reply → x ≡ y
answer_of x y e f = λ i. record { session = e i; reply = f i }

made_bounded : (σ μ : State) (n : ℕ) (a : Ask) (r : Reply) → JoinsBounded a → IsBounded σ → IsStepMade σ n a r μ → IsBounded μ
made_bounded σ μ n a r joins bounded made = subst IsBounded (ap (λ o. Outcome.state o) made.made) (stays_bounded σ made.over n a joins bounded)

calls_bounded : (n : ℕ) (σ μ : State) (calls : List Call) → IsBounded σ → Ran n σ calls μ → IsBounded μ
calls_bounded n σ μ [] bounded ran = subst IsBounded (sym ran) bounded
calls_bounded n σ μ (Asked c r ∷ calls) bounded (ρ, inl made, ran) = calls_bounded n ρ μ calls (made_bounded σ ρ n (DoCommand c) r tt bounded made) ran
calls_bounded n σ μ (Asked c r ∷ calls) bounded (ρ, inr (takes, none, same), ran) = calls_bounded n ρ μ calls (subst IsBounded (sym same) bounded) ran
calls_bounded n σ μ (Waited w ∷ calls) bounded (e, ran) = calls_bounded n σ μ calls bounded ran
calls_bounded n σ μ (Again ∷ calls) bounded ran = calls_bounded n σ μ calls bounded ran

made_once : (σ μ ν : State) (n : ℕ) (a : Ask) (r q : Reply) → IsBounded σ → IsStepMade σ n a r μ → IsStepMade σ n a q ν → (r ≡ q) × (μ ≡ ν)
made_once σ μ ν n a r q bounded h k =
    let same : h.over ≡ k.over = is_settled σ h.over n a bounded h.allowed ∙ sym (is_settled σ k.over n a bounded k.allowed) in
    let both = sym h.made ∙ ap (λ over. outcome σ over n a) same ∙ k.made in
    (ap (λ o. Outcome.reply o) both, ap (λ o. Outcome.state o) both)

-- what is driven is no step
driven_alone : (σ μ : State) (n : ℕ) (a : Request) (r : Reply) → IsDrivenRequest σ n a r μ → is_step a ≡ false
driven_alone σ μ n (DoCommand (command.OneShot parts retries)) r d = refl
driven_alone σ μ n (DoCommand c) r d = absurd d.one_shot
driven_alone σ μ n a r d = absurd d

abbrev Unrefused : PayloadReply → Type 0
Unrefused x = x.reply ≢ reply.NoMemory

-- ---- a session that is alone

record Alone (n : ℕ) (μ : State) (x : PayloadReply) : Type 0 where
  pub sole : IsSole n μ
  pub wait : x.reply ≢ reply.Waiting
  pub restart : x.reply ≢ reply.Restart

stays_alone : (n : ℕ) (σ μ : State) (x : PayloadReply) → μ ≡ σ → x.reply ≢ reply.Waiting → x.reply ≢ reply.Restart → IsSole n σ → Alone n μ x
stays_alone n σ μ x same w r sole = record { sole = subst (IsSole n) (sym same) sole; wait = w; restart = r }

-- a reply that is no wait and no restart
abbrev Calm : Reply → Type 0
Calm r = (r ≢ reply.Waiting) × (r ≢ reply.Restart)

made_calm : (n : ℕ) (σ μ : State) (a : Ask) (r : Reply) → IsStepMade σ n a r μ → IsSole n σ → IsSole n μ × Calm r
made_calm n σ μ a r made sole = (
  subst (IsSole n) (ap (λ o. Outcome.state o) made.made) (stays_sole σ made.over n a sole),
  ((λ e. no_wait σ made.over n a sole (ap (λ o. Outcome.reply o) made.made ∙ e)), (λ e. no_restart σ made.over n a sole (ap (λ o. Outcome.reply o) made.made ∙ e))),
)

unmade_calm : Calm reply.NoMemory
unmade_calm = ((λ e. cc), (λ e. cc))

call_calm : (n : ℕ) (σ μ : State) (c : Command) (r : Reply) → StepMadeOrRefused σ n (DoCommand c) r μ → IsSole n σ → IsSole n μ × Calm r
call_calm n σ μ c r (inl made) sole = made_calm n σ μ (DoCommand c) r made sole
call_calm n σ μ c r (inr (takes, none, same)) sole = (subst (IsSole n) (sym same) sole, subst Calm (sym none) unmade_calm)

calls_calm : (n : ℕ) (σ μ : State) (calls : List Call) → Ran n σ calls μ → IsSole n σ → IsSole n μ × Answers Calm calls
calls_calm n σ μ [] ran sole = (subst (IsSole n) (sym ran) sole, tt)
calls_calm n σ μ (Asked c r ∷ calls) (ρ, one, ran) sole =
    let first = call_calm n σ ρ c r one sole in
    let all = calls_calm n ρ μ calls ran first.0 in
    (all.0, (first.1, all.1))
calls_calm n σ μ (Waited w ∷ calls) (e, ran) sole = let all = calls_calm n σ μ calls ran sole in (all.0, (subst (λ (x : Option Reply). Awaited Calm x) (sym e) tt, all.1))
calls_calm n σ μ (Again ∷ calls) ran sole = calls_calm n σ μ calls ran sole

abbrev GoesOn : PayloadReply → Type 0
GoesOn x = (x.reply ≢ reply.Waiting) × (x.reply ≢ reply.Restart)

module _ (capacity : ℕ) where
  joins_empty : (a : Request) → JoinsEmpty (ask_for capacity a)
  joins_empty (Join u) = refl
  joins_empty Leave = tt
  joins_empty Retry = tt
  joins_empty Take = tt
  joins_empty (DoCommand c) = tt

  request_leads : (σ μ : State) (n : ℕ) (a : Request) (r : Reply) (made : IsMadeOf capacity σ n a r μ) → Leads σ μ (of_request capacity σ n a r μ made) (λ m. delivered_by m n r)
  request_leads σ μ n a r (inl (one, made)) = steps σ μ n (ask_for capacity a) r made (joins_empty a)
  request_leads σ μ n (DoCommand c) r (inr driven) = driven_leads σ μ n c r driven
  request_leads σ μ n a r (inr driven) = absurd driven

  read_leads : (σ μ : State) (read : Result PlainTerm Stop) (x : PayloadReply) (h : AnsweredRead capacity σ read x μ) → Leads σ μ (of_read capacity σ read x μ h) (λ m. delivered_by m x.session x.reply)
  read_leads σ μ (Err f) x h = quiet_leads σ μ x h.1 (ap (λ y. item_of (PayloadReply.reply y)) h.0)
  read_leads σ μ (Ok t) x (inl h) = quiet_leads σ μ x h.same (ap item_of h.reply)
  read_leads σ μ (Ok t) x (inr h) = request_leads σ μ x.session h.asked x.reply h.made

  answer_leads : (σ μ : State) (p : List ℕ) (x : PayloadReply) (h : Answered capacity σ p x μ) → Leads σ μ (of_answer capacity σ p x μ h) (λ m. delivered_by m x.session x.reply)
  answer_leads σ μ p x (inl h) = read_leads σ μ (whole p) x h
  answer_leads σ μ p x (inr h) = quiet_leads σ μ x h.same (ap item_of h.reply)

  ran_leads : (σ τ : State) (ps : List (List ℕ)) (xs : List PayloadReply) (ran : AnsweredAll capacity σ ps xs τ) → Leads σ τ (of_all capacity σ ps xs τ ran) (λ m. taken_by m xs)
  ran_leads σ τ [] [] ran = stays σ τ ran
  ran_leads σ τ (p ∷ ps) [] ran = absurd ran
  ran_leads σ τ [] (x ∷ xs) ran = absurd ran
  ran_leads σ τ (p ∷ ps) (x ∷ xs) (μ, one, rest) =
      then_leads σ μ τ (of_answer capacity σ p x μ one) (of_all capacity μ ps xs τ rest) (λ m. delivered_by m x.session x.reply) (λ m. taken_by m xs) (answer_leads σ μ p x one) (ran_leads μ τ ps xs rest)

  pub run_leads : (σ : State) (ps : List (List ℕ)) (xs : List PayloadReply) (s : IsRun capacity σ ps xs) → Leads σ s.last (account capacity σ ps xs s) (λ m. taken_by m xs)
  run_leads σ ps xs s = ran_leads σ s.last ps xs s.ran

  ran_length : (σ τ : State) (ps : List (List ℕ)) (xs : List PayloadReply) → AnsweredAll capacity σ ps xs τ → length xs ≡ length ps
  ran_length σ τ [] [] ran = refl
  ran_length σ τ (p ∷ ps) [] ran = absurd ran
  ran_length σ τ [] (x ∷ xs) ran = absurd ran
  ran_length σ τ (p ∷ ps) (x ∷ xs) (μ, one, rest) = ap suc (ran_length μ τ ps xs rest)

  pub said_each : (σ : State) (ps : List (List ℕ)) (xs : List PayloadReply) → IsRun capacity σ ps xs → length xs ≡ length ps
  said_each σ ps xs s = ran_length σ s.last ps xs s.ran

  request_once : (σ μ ν : State) (n : ℕ) (a : Request) (r q : Reply) → IsBounded σ → r ≢ reply.NoMemory → q ≢ reply.NoMemory → IsMadeOf capacity σ n a r μ → IsMadeOf capacity σ n a q ν → (r ≡ q) × (μ ≡ ν)
  request_once σ μ ν n a r q bounded e f (inl (one, h)) (inl (other, k)) = made_once σ μ ν n (ask_for capacity a) r q bounded h k
  request_once σ μ ν n a r q bounded e f (inl (one, h)) (inr k) = absurd (false≢true (sym (driven_alone σ ν n a q k) ∙ one))
  request_once σ μ ν n a r q bounded e f (inr h) (inl (one, k)) = absurd (false≢true (sym (driven_alone σ μ n a r h) ∙ one))
  request_once σ μ ν n (DoCommand c) r q bounded e f (inr h) (inr k) = driven_once σ μ ν n c r q bounded e f h k
  request_once σ μ ν n a r q bounded e f (inr h) (inr k) = absurd h

  term_once : (σ μ ν : State) (t : PlainTerm) (x y : PayloadReply) → IsBounded σ → Unrefused x → Unrefused y → AnsweredTerm capacity σ t x μ → AnsweredTerm capacity σ t y ν → (x ≡ y) × (μ ≡ ν)
  term_once σ μ ν t x y bounded e f (inl h) (inl k) = (answer_of x y (number_once t x.session y.session h.under k.under) (h.reply ∙ sym k.reply), h.same ∙ sym k.same)
  term_once σ μ ν t x y bounded e f (inl h) (inr k) = absurd (h.nothing y.session k.asked k.session k.formed k.spelled)
  term_once σ μ ν t x y bounded e f (inr h) (inl k) = absurd (k.nothing x.session h.asked h.session h.formed h.spelled)
  term_once σ μ ν t x y bounded e f (inr h) (inr k) =
      let same = requests_apart x.session y.session h.asked k.asked h.formed k.formed (h.spelled ∙ sym k.spelled) in
      let once = request_once σ μ ν x.session h.asked x.reply y.reply bounded e f h.made
      (subst (λ (a : Request). IsMadeOf capacity σ x.session a y.reply ν) (sym same.1) (subst (λ (n : ℕ). IsMadeOf capacity σ n k.asked y.reply ν) (sym same.0) k.made)) in
      (answer_of x y same.0 once.0, once.1)

  read_once : (σ μ ν : State) (read : Result PlainTerm Stop) (x y : PayloadReply) → IsBounded σ → Unrefused x → Unrefused y → AnsweredRead capacity σ read x μ → AnsweredRead capacity σ read y ν → (x ≡ y) × (μ ≡ ν)
  read_once σ μ ν (Err f) x y bounded g i h k = (h.0 ∙ sym k.0, h.1 ∙ sym k.1)
  read_once σ μ ν (Ok t) x y bounded e f h k = term_once σ μ ν t x y bounded e f h k

  answer_once : (σ μ ν : State) (p : List ℕ) (x y : PayloadReply) → IsBounded σ → Unrefused x → Unrefused y → Answered capacity σ p x μ → Answered capacity σ p y ν → (x ≡ y) × (μ ≡ ν)
  answer_once σ μ ν p x y bounded e f (inl h) (inl k) = read_once σ μ ν (whole p) x y bounded e f h k
  answer_once σ μ ν p x y bounded e f (inr h) k = absurd (e h.reply)
  answer_once σ μ ν p x y bounded e f (inl h) (inr k) = absurd (f k.reply)

  -- a session joins with a post that has a capacity
  joins_bounded : (a : Request) → JoinsBounded (ask_for capacity a)
  joins_bounded (Join u) = refl
  joins_bounded Leave = tt
  joins_bounded Retry = tt
  joins_bounded Take = tt
  joins_bounded (DoCommand c) = tt

  request_bounded : (σ μ : State) (n : ℕ) (a : Request) (r : Reply) → IsBounded σ → IsMadeOf capacity σ n a r μ → IsBounded μ
  request_bounded σ μ n a r bounded (inl (one, made)) = made_bounded σ μ n (ask_for capacity a) r (joins_bounded a) bounded made
  request_bounded σ μ n (DoCommand c) r bounded (inr driven) = calls_bounded n σ μ driven.calls bounded driven.ran
  request_bounded σ μ n a r bounded (inr driven) = absurd driven

  read_bounded : (σ μ : State) (read : Result PlainTerm Stop) (x : PayloadReply) → IsBounded σ → AnsweredRead capacity σ read x μ → IsBounded μ
  read_bounded σ μ (Err f) x bounded h = subst IsBounded (sym h.1) bounded
  read_bounded σ μ (Ok t) x bounded (inl h) = subst IsBounded (sym h.same) bounded
  read_bounded σ μ (Ok t) x bounded (inr h) = request_bounded σ μ x.session h.asked x.reply bounded h.made

  answer_bounded : (σ μ : State) (p : List ℕ) (x : PayloadReply) → IsBounded σ → Answered capacity σ p x μ → IsBounded μ
  answer_bounded σ μ p x bounded (inl h) = read_bounded σ μ (whole p) x bounded h
  answer_bounded σ μ p x bounded (inr h) = subst IsBounded (sym h.same) bounded

  ran_once : (σ τ ω : State) (ps : List (List ℕ)) (xs ys : List PayloadReply) → IsBounded σ → NoneRefused xs → NoneRefused ys → AnsweredAll capacity σ ps xs τ → AnsweredAll capacity σ ps ys ω → (xs ≡ ys) × (τ ≡ ω)
  ran_once σ τ ω [] [] [] bounded e f h k = (refl, h ∙ sym k)
  ran_once σ τ ω [] (x ∷ xs) ys bounded e f h k = absurd h
  ran_once σ τ ω [] [] (y ∷ ys) bounded e f h k = absurd k
  ran_once σ τ ω (p ∷ ps) [] ys bounded e f h k = absurd h
  ran_once σ τ ω (p ∷ ps) (x ∷ xs) [] bounded e f h k = absurd k
  ran_once σ τ ω (p ∷ ps) (x ∷ xs) (y ∷ ys) bounded e f (μ, h, hs) (ν, k, ks) =
      let one = answer_once σ μ ν p x y bounded (All-head Unrefused x xs e) (All-head Unrefused y ys f) h k in
      let all = ran_once μ τ ω ps xs ys (answer_bounded σ μ p x bounded h) (All-tail Unrefused x xs e) (All-tail Unrefused y ys f) hs (subst (λ (s : State). AnsweredAll capacity s ps ys ω) (sym one.1) ks) in
      (λ i. one.0 i ∷ all.0 i, all.1)

  pub said_once : (σ : State) (ps : List (List ℕ)) (xs ys : List PayloadReply) → IsBounded σ → NoneRefused xs → NoneRefused ys → IsRun capacity σ ps xs → IsRun capacity σ ps ys → xs ≡ ys
  said_once σ ps xs ys bounded e f s t = (ran_once σ s.last t.last ps xs ys bounded e f s.ran t.ran).0

  request_calm : (n : ℕ) (σ μ : State) (a : Request) (r : Reply) → IsMadeOf capacity σ n a r μ → IsSole n σ → IsSole n μ × Calm r
  request_calm n σ μ a r (inl (one, made)) sole = made_calm n σ μ (ask_for capacity a) r made sole
  request_calm n σ μ (DoCommand c) r (inr d) sole =
      let all = calls_calm n σ μ d.calls d.ran sole in
      (all.0, last_reply Calm (record { no_memory = ((λ e. cc), (λ e. cc)); no_wait = ((λ e. cc), (λ e. cc)); no_more = ((λ e. cc), (λ e. cc)); terms = λ ts. ((λ e. cc), (λ e. cc)) }) c d.calls r d.one_shot all.1)
  request_calm n σ μ a r (inr d) sole = absurd d

  made_alone : (n : ℕ) (σ μ : State) (x : PayloadReply) (a : Request) → x.session ≡ n → IsMadeOf capacity σ x.session a x.reply μ → IsSole n σ → Alone n μ x
  made_alone n σ μ x a mine made sole =
      let here = request_calm n σ μ a x.reply (subst (λ (m : ℕ). IsMadeOf capacity σ m a x.reply μ) mine made) sole in
      record { sole = here.0; wait = here.1.0; restart = here.1.1 }

  read_alone : (n : ℕ) (σ μ : State) (read : Result PlainTerm Stop) (x : PayloadReply) → ((t : PlainTerm) (m : ℕ) → read ≡ Ok t → IsNumbered t m → m ≡ n) → AnsweredRead capacity σ read x μ → IsSole n σ → Alone n μ x
  read_alone n σ μ (Err f) x of h sole = stays_alone n σ μ x h.1 (λ e. waits (sym (ap (λ y. PayloadReply.reply y) h.0) ∙ e)) (λ e. restarts (sym (ap (λ y. PayloadReply.reply y) h.0) ∙ e)) sole
    where
      waits : reply.BadTerm ≡ reply.Waiting → ⊥
      waits e = cc

      restarts : reply.BadTerm ≡ reply.Restart → ⊥
      restarts e = cc
  read_alone n σ μ (Ok t) x of (inl h) sole = stays_alone n σ μ x h.same (λ e. waits (sym h.reply ∙ e)) (λ e. restarts (sym h.reply ∙ e)) sole
    where
      waits : reply.BadCommand ≡ reply.Waiting → ⊥
      waits e = cc

      restarts : reply.BadCommand ≡ reply.Restart → ⊥
      restarts e = cc
  read_alone n σ μ (Ok t) x of (inr h) sole = made_alone n σ μ x h.asked (of t x.session refl (h.session, ap number_in (sym h.spelled))) h.made sole

  answer_alone : (n : ℕ) (σ μ : State) (p : List ℕ) (x : PayloadReply) → IsOf n p → Answered capacity σ p x μ → IsSole n σ → Alone n μ x
  answer_alone n σ μ p x of (inl h) sole = read_alone n σ μ (whole p) x of h sole
  answer_alone n σ μ p x of (inr h) sole = stays_alone n σ μ x h.same (λ e. waits (sym h.reply ∙ e)) (λ e. restarts (sym h.reply ∙ e)) sole
    where
      waits : reply.NoMemory ≡ reply.Waiting → ⊥
      waits e = cc

      restarts : reply.NoMemory ≡ reply.Restart → ⊥
      restarts e = cc

  ran_alone : (n : ℕ) (σ τ : State) (ps : List (List ℕ)) (xs : List PayloadReply) → AreOf n ps → AnsweredAll capacity σ ps xs τ → IsSole n σ → NoneWaits xs
  ran_alone n σ τ [] [] of ran sole = All-nil GoesOn
  ran_alone n σ τ (p ∷ ps) [] of ran sole = absurd ran
  ran_alone n σ τ [] (x ∷ xs) of ran sole = absurd ran
  ran_alone n σ τ (p ∷ ps) (x ∷ xs) of (μ, one, rest) sole =
      let first = answer_alone n σ μ p x (All-head (IsOf n) p ps of) one sole in
      All-cons GoesOn x xs (first.wait, first.restart) (ran_alone n μ τ ps xs (All-tail (IsOf n) p ps of) rest first.sole)

  pub said_alone : (n : ℕ) (σ : State) (ps : List (List ℕ)) (xs : List PayloadReply) → AreOf n ps → IsSole n σ → IsRun capacity σ ps xs → NoneWaits xs
  said_alone n σ ps xs of sole s = ran_alone n σ s.last ps xs of s.ran sole
