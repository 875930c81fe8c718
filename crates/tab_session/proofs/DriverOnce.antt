-- A one-shot's reply follows from the state: two runs of the driver over the same session say the same where neither says NoMemory. A
-- run in which anything was refused for memory says it at its end, since each level that is open is then ended by an abort, which takes
-- none and is answered so.
use Rattle.std.proofs.Common.{◌≡◌, ◌≢◌, ℕ, zero, suc, pos, ◌≤◌, List, [], ◌∷◌, ◌++◌, true, length, refl, sym, ap, subst, ◌∙◌, inl, inr, arith, ◌⊎◌, Option, Some, None}
use Rattle.tab_term.specs.Data.{PlainTerm, PlainTerms, none}
use Rattle.tab_term.specs.declared.term.Term.TheVariants.{Int}
use Rattle.tab_model.specs.State.{State}
use Rattle.tab_model.specs.declared.ask.Ask.TheVariants.{Do as DoCommand}
use Rattle.tab_model.specs.Outcome.{Outcome, outcome}
use Rattle.tab_model.specs.declared.data.Part.{Part}
use Rattle.tab_model.specs.declared.data.Part.TheVariants as part
use Rattle.tab_model.specs.declared.data.Command.{Command}
use Rattle.tab_model.specs.declared.data.Command.TheVariants as command
use Rattle.tab_model.specs.declared.data.Reply.{Reply}
use Rattle.tab_model.specs.declared.data.Reply.TheVariants as reply
use Rattle.tab_oneshot.specs.declared.answer.Sort.{Sort}
use Rattle.tab_oneshot.specs.declared.answer.Sort.TheVariants as sort
use Rattle.tab_oneshot.specs.Calls.{Call, Asked, Waited, Again}
use Rattle.tab_oneshot.specs.Attempts.{sort_of, Ended, Ends, Asks, Turn, GoesOn, IsOver, Restarts, AsItIs, Stops, Puts, LevelEnds, AfterOperation, AfterWait, AfterAsked, AfterAbort, AfterBegin, Joins, AfterInner, AfterCommit, HandsIn, Serves, passed, Goes, Commits, IsAttempt, told, innermost}
use Rattle.tab_proto.specs.Replies.{reply_term}
use Rattle.tab_oneshot.specs.OneShots.{Follows, IsTried, Tries, Runs, Opens, IsRun}
use Rattle.tab_session.specs.OneSessions.{Ran, IsDriven}
use Rattle.tab_oneshot.proofs.LastReplies.{is_handed}
use Rattle.tab_session.specs.Bounded.{IsBounded}
use Rattle.tab_session.proofs.BoundedSteps.{stays_bounded, settled, is_settled}
use Rattle.tab_session.proofs.DriverSteps.{less_one, depth, Deepens, deepens, aborts, opens}

pub ran_split : (n : ℕ) (σ τ : State) (first rest : List Call) → Ran n σ (first ++ rest) τ → (μ : State) × Ran n σ first μ × Ran n μ rest τ
ran_split n σ τ [] rest h = (σ, refl, h)
ran_split n σ τ (Asked c r ∷ first) rest (ρ, one, h) = let s = ran_split n ρ τ first rest h in (s.0, (ρ, one, s.1), s.2)
ran_split n σ τ (Waited w ∷ first) rest (e, h) = let s = ran_split n σ τ first rest h in (s.0, (e, s.1), s.2)
ran_split n σ τ (Again ∷ first) rest h = ran_split n σ τ first rest h

pub told_length : (t : PlainTerm) (levels : List PlainTerms) → length (told t levels) ≡ length levels
told_length t [] = refl
told_length t (ts ∷ outer) = refl

-- a state whose posts all have a capacity, so that it decides who refuses
record Held : Type 0 where
  pub now : State
  pub bounded : IsBounded now

module _ (n : ℕ) where
  -- who refuses, and what is then said and left
  abbrev over_of : Held → Command → List ℕ
  over_of σ c = settled σ.now n (DoCommand c)

  abbrev outcome_at : Held → Command → Outcome
  outcome_at σ c = outcome σ.now (over_of σ c) n (DoCommand c)

  abbrev said : Held → Command → Reply
  said σ c = (outcome_at σ c).reply

  abbrev after_it : Held → Command → Held
  after_it σ c = record { now = (outcome_at σ c).state; bounded = stays_bounded σ.now (over_of σ c) n (DoCommand c) tt σ.bounded }

  -- runs over such calls from a state end in one value and one state, or in the bad value
  record Once {X : Type 0} (bad : X) (Keeps : X → Held → Type 0) (σ : Held) (R : List Call → X → Type 0) : Type 0 where
    pub value : X
    pub after : Held
    pub keeps : Keeps value after
    pub only : (calls : List Call) (y : X) (ν : State) → R calls y → Ran n σ.now calls ν → (y ≡ bad) ⊎ (y ≡ value) × (ν ≡ after.now)

  here : {X : Type 0} (bad : X) (Keeps : X → Held → Type 0) (σ : Held) (x : X) → Keeps x σ → Once bad Keeps σ (λ calls y. (calls ≡ []) × (y ≡ x))
  here bad Keeps σ x k = record { value = x; after = σ; keeps = k; only = λ calls y ν r ran. inr (r.1, subst (λ (cs : List Call). Ran n σ.now cs ν) r.0 ran) }

  -- a command is made or refused, and its refusal ends in the bad value
  asked : {X : Type 0} (bad : X) (Keeps : X → Held → Type 0) (σ : Held) (c : Command) (After : Sort → Reply → List Call → X → Type 0)
      → ((rest : List Call) (y : X) (ν : State) → After sort.Refused reply.NoMemory rest y → Ran n σ.now rest ν → y ≡ bad)
      → Once bad Keeps (after_it σ c) (After (sort_of (said σ c)) (said σ c))
      → Once bad Keeps σ (λ calls y. Asks c (λ s x rest. After s x rest y) calls)
  asked {X} bad Keeps σ c After refused k = record { value = k.value; after = k.after; keeps = k.keeps; only = λ calls y ν (x, rest, e, h) ran. by_call x rest y ν h (subst (λ (cs : List Call). Ran n σ.now cs ν) e ran) }
    where
      by_call : (x : Reply) (rest : List Call) (y : X) (ν : State) → After (sort_of x) x rest y → Ran n σ.now (Asked c x ∷ rest) ν → (y ≡ bad) ⊎ (y ≡ k.value) × (ν ≡ k.after.now)
      by_call x rest y ν h (μ, inl made, ran) =
          let is : outcome_at σ c ≡ record { state = μ; reply = x; entry = made.entry } = ap (λ over. outcome σ.now over n (DoCommand c)) (sym (is_settled σ.now made.over n (DoCommand c) σ.bounded made.allowed)) ∙ made.made in
          k.only rest y ν (subst (λ (r : Reply). After (sort_of r) r rest y) (sym (ap (λ q. Outcome.reply q) is)) h) (subst (λ (ρ : State). Ran n ρ rest ν) (sym (ap (λ q. Outcome.state q) is)) ran)
      by_call x rest y ν h (μ, inr (takes, is, same), ran) =
          inl (refused rest y ν (subst (λ (r : Reply). After (sort_of r) r rest y) is h) (subst (λ (ρ : State). Ran n ρ rest ν) same ran))

  -- ---- ends of levels

  abbrev Last : Reply → Reply → Held → Type 0
  Last r v μ = v ≡ r

  -- a reply after which so many open levels are ended stays the reply
  ended : (k : ℕ) (σ : Held) (r : Reply) → k ≤ depth σ.now n → Once reply.NoMemory (Last r) σ (Ends k r)
  ended zero σ r le = here reply.NoMemory (Last r) σ r refl
  ended (suc k) σ r le =
      asked reply.NoMemory (Last r) σ aborting (λ s x rest last. Ended s x (λ ys. Ends k r ys last) rest last)
      (λ rest y ν h ran. h.1)
      (subst (λ (x : Reply). Once reply.NoMemory (Last r) next (λ rest last. Ended (sort_of x) x (λ ys. Ends k r ys last) rest last)) (sym is) (ended k next r (omega (arith, fewer (depth σ.now n) gone, le))))
    where
      aborting : Command
      aborting = command.Abort (Int (pos 0))

      next : Held
      next = after_it σ aborting

      is : said σ aborting ≡ reply.UserAbort (Int (pos 0))
      is = aborts σ.now (over_of σ aborting) n (Int (pos 0)) (omega (arith, le))

      gone : depth next.now n ≡ less_one (depth σ.now n)
      gone = subst (λ (x : Reply). Deepens (sort_of x) (depth σ.now n) (depth next.now n)) is (deepens σ.now (over_of σ aborting) n aborting refl)

      fewer : (d : ℕ) → depth next.now n ≡ less_one d → d ≤ suc (depth next.now n)
      fewer zero e = omega arith
      fewer (suc d) e = omega (arith, e)

  -- where memory was refused, that is the last reply
  refused_ends : (k : ℕ) (σ : Held) → k ≤ depth σ.now n → (calls : List Call) (last : Reply) (ν : State) → Ends k reply.NoMemory calls last → Ran n σ.now calls ν → last ≡ reply.NoMemory
  refused_ends k σ le calls last ν h ran =
      let e = ended k σ reply.NoMemory le in
      elim (e.only calls last ν h ran) [ inl bad ↦ bad | inr same ↦ same.0 ∙ e.keeps ]

  -- ---- what follows an answer

  -- as many levels are open as the driver knows of
  abbrev Kept : Turn → Held → Type 0
  Kept (GoesOn k levels) μ = length levels ≡ depth μ.now n
  Kept (IsOver r) μ = Unit {0}
  Kept Restarts μ = depth μ.now n ≡ 1

  abbrev OnceTurned : Held → (List Call → Turn → Type 0) → Type 0
  OnceTurned σ R = Once (IsOver reply.NoMemory) Kept σ R

  over : (σ : Held) (r : Reply) → OnceTurned σ (AsItIs r)
  over σ r = here (IsOver reply.NoMemory) Kept σ (IsOver r) tt

  stopped : (r : Reply) (levels : List PlainTerms) (σ : Held) → length levels ≡ depth σ.now n → OnceTurned σ (Stops r levels)
  stopped r levels σ e = record { value = IsOver k.value; after = k.after; keeps = tt; only = only }
    where
      k : Once reply.NoMemory (Last r) σ (Ends (length levels) r)
      k = ended (length levels) σ r (omega (arith, e))

      only : (calls : List Call) (turn : Turn) (ν : State) → Stops r levels calls turn → Ran n σ.now calls ν → (turn ≡ IsOver reply.NoMemory) ⊎ (turn ≡ IsOver k.value) × (ν ≡ k.after.now)
      only calls turn ν (last, h, f) ran = elim (k.only calls last ν h ran) [ inl bad ↦ inl (f ∙ ap IsOver bad) | inr same ↦ inr (f ∙ ap IsOver same.0, same.1) ]

  refused_stops : (levels : List PlainTerms) (σ : Held) → length levels ≡ depth σ.now n → (calls : List Call) (turn : Turn) (ν : State) → Stops reply.NoMemory levels calls turn → Ran n σ.now calls ν → turn ≡ IsOver reply.NoMemory
  refused_stops levels σ e calls turn ν (last, h, f) ran = f ∙ ap IsOver (refused_ends (length levels) σ (omega (arith, e)) calls last ν h ran)

  put : (k : ℕ) (r : Reply) (levels : List PlainTerms) (σ : Held) → length levels ≡ depth σ.now n → OnceTurned σ (Puts k r levels)
  put k r levels σ e = record { value = GoesOn k (told (reply_term r) levels); after = σ; keeps = told_length (reply_term r) levels ∙ e; only = only }
    where
      only : (calls : List Call) (turn : Turn) (ν : State) → Puts k r levels calls turn → Ran n σ.now calls ν → (turn ≡ IsOver reply.NoMemory) ⊎ (turn ≡ GoesOn k (told (reply_term r) levels)) × (ν ≡ σ.now)
      only calls turn ν (inl h) ran = inr (h.1, subst (λ (cs : List Call). Ran n σ.now cs ν) h.0 ran)
      only calls turn ν (inr h) ran = inl (refused_stops levels σ e calls turn ν h ran)

  level_ended : (r : Reply) (levels : List PlainTerms) (σ : Held) → depth σ.now n ≡ less_one (length levels) → OnceTurned σ (LevelEnds r levels)
  level_ended r [] σ e = over σ r
  level_ended r (ts ∷ []) σ e = over σ r
  level_ended r (ts ∷ us ∷ outer) σ e = put 1 r (us ∷ outer) σ (sym e)

  operated : (s : Sort) (r : Reply) (levels : List PlainTerms) (σ : Held) → Deepens s (length levels) (depth σ.now n) → OnceTurned σ (AfterOperation s r levels)
  operated sort.Answered r levels σ e = put 0 r levels σ (sym e)
  operated sort.Failed r levels σ e = level_ended r levels σ e
  operated sort.Restarted r levels σ e = here (IsOver reply.NoMemory) Kept σ Restarts e
  operated sort.Refused r levels σ e = stopped r levels σ (sym e)
  operated s r levels σ e = over σ r

  -- no one can wait
  waited : (r : Reply) (levels : List PlainTerms) (σ : Held) → length levels ≡ depth σ.now n → OnceTurned σ (AfterAsked sort.Waits r levels)
  waited r levels σ e = record { value = k.value; after = k.after; keeps = k.keeps; only = only }
    where
      k : OnceTurned σ (Stops reply.NoWait levels)
      k = stopped reply.NoWait levels σ e

      only : (calls : List Call) (turn : Turn) (ν : State) → AfterAsked sort.Waits r levels calls turn → Ran n σ.now calls ν → (turn ≡ IsOver reply.NoMemory) ⊎ (turn ≡ k.value) × (ν ≡ k.after.now)
      only calls turn ν (w, rest, is, h) ran =
          let ran_on = subst (λ (cs : List Call). Ran n σ.now cs ν) is ran in
          k.only rest turn ν (subst (λ (x : Option Reply). AfterWait x levels rest turn) ran_on.0 h) ran_on.1

  answered : (s : Sort) (r : Reply) (levels : List PlainTerms) (σ : Held) → Deepens s (length levels) (depth σ.now n) → OnceTurned σ (AfterAsked s r levels)
  answered sort.Waits r levels σ e = waited r levels σ (sym e)
  answered s r levels σ e = operated s r levels σ e

  aborted : (s : Sort) (r : Reply) (levels : List PlainTerms) (σ : Held) → Deepens s (length levels) (depth σ.now n) → OnceTurned σ (AfterAbort s r levels)
  aborted sort.Aborted r levels σ e = level_ended r levels σ e
  aborted sort.Refused r levels σ e = stopped r levels σ (sym e)
  aborted s r levels σ e = over σ r

  begun : (s : Sort) (r : Reply) (levels : List PlainTerms) (σ : Held) → Deepens s (length levels) (depth σ.now n) → OnceTurned σ (AfterBegin s r levels)
  begun sort.Opened r levels σ e = here (IsOver reply.NoMemory) Kept σ (GoesOn 0 (none ∷ levels)) (sym e)
  begun sort.Refused r levels σ e = stopped r levels σ (sym e)
  begun s r levels σ e = over σ r

  joined : (r : Reply) (levels : List PlainTerms) (σ : Held) → depth σ.now n ≡ less_one (length levels) → OnceTurned σ (Joins r levels)
  joined r [] σ e = over σ r
  joined r (ts ∷ []) σ e = over σ r
  joined r (ts ∷ us ∷ outer) σ e = put 0 (reply.AtomicTerms ts) (us ∷ outer) σ (sym e)

  inner : (s : Sort) (r : Reply) (levels : List PlainTerms) (σ : Held) → Deepens s (length levels) (depth σ.now n) → OnceTurned σ (AfterInner s r levels)
  inner sort.Joined r levels σ e = joined r levels σ e
  inner sort.Refused r levels σ e = stopped r levels σ (sym e)
  inner s r levels σ e = over σ r

  -- ---- a part

  changed : (levels : List PlainTerms) (σ : Held) (c : Command) → is_handed c ≡ true → length levels ≡ depth σ.now n → Deepens (sort_of (said σ c)) (length levels) (depth (after_it σ c).now n)
  changed levels σ c h e = subst (λ (d : ℕ). Deepens (sort_of (said σ c)) d (depth (after_it σ c).now n)) (sym e) (deepens σ.now (over_of σ c) n c h)

  handed : (p : Part) (levels : List PlainTerms) (σ : Held) → length levels ≡ depth σ.now n → OnceTurned σ (HandsIn p levels)
  handed (part.Do o) levels σ e =
      asked _ Kept σ (command.Do o) (λ s x rest turn. AfterAsked s x levels rest turn) (refused_stops levels σ e)
      (answered _ (said σ (command.Do o)) levels (after_it σ (command.Do o)) (changed levels σ (command.Do o) refl e))
  handed (part.Abort r) levels σ e =
      asked _ Kept σ (command.Abort r) (λ s x rest turn. AfterAbort s x levels rest turn) (refused_stops levels σ e)
      (aborted _ (said σ (command.Abort r)) levels (after_it σ (command.Abort r)) (changed levels σ (command.Abort r) refl e))
  handed part.Open levels σ e =
      asked _ Kept σ command.Begin (λ s x rest turn. AfterBegin s x levels rest turn) (refused_stops levels σ e)
      (begun _ (said σ command.Begin) levels (after_it σ command.Begin) (changed levels σ command.Begin refl e))
  handed part.Close levels σ e =
      asked _ Kept σ command.Commit (λ s x rest turn. AfterInner s x levels rest turn) (refused_stops levels σ e)
      (inner _ (said σ command.Commit) levels (after_it σ command.Commit) (changed levels σ command.Commit refl e))

  served : (p : Part) (levels : List PlainTerms) (σ : Held) → length levels ≡ depth σ.now n → OnceTurned σ (Serves p levels)
  served p levels σ e = record { value = k.value; after = k.after; keeps = k.keeps; only = only }
    where
      k : OnceTurned σ (HandsIn p levels)
      k = handed p levels σ e

      only : (calls : List Call) (turn : Turn) (ν : State) → Serves p levels calls turn → Ran n σ.now calls ν → (turn ≡ IsOver reply.NoMemory) ⊎ (turn ≡ k.value) × (ν ≡ k.after.now)
      only calls turn ν (inl h) ran = k.only calls turn ν h ran
      only calls turn ν (inr h) ran = inl (refused_stops levels σ e calls turn ν h.1 ran)

  -- ---- attempts

  abbrev Any : Reply → Held → Type 0
  Any r μ = Unit {0}

  abbrev OnceReplied : Held → (List Call → Reply → Type 0) → Type 0
  OnceReplied σ R = Once reply.NoMemory Any σ R

  ends : (k : ℕ) (σ : Held) (r : Reply) → k ≤ depth σ.now n → OnceReplied σ (Ends k r)
  ends k σ r le = let e = ended k σ r le in record { value = e.value; after = e.after; keeps = tt; only = e.only }

  committed : (s : Sort) (r : Reply) (levels : List PlainTerms) (σ : Held) → Deepens s (length levels) (depth σ.now n) → OnceReplied σ (AfterCommit s r levels)
  committed sort.Committed r levels σ e = here reply.NoMemory Any σ (reply.AtomicTerms (innermost levels)) tt
  committed sort.Refused r levels σ e = ends (length levels) σ r (omega (arith, e))
  committed s r levels σ e = here reply.NoMemory Any σ r tt

  commits : (levels : List PlainTerms) (σ : Held) → length levels ≡ depth σ.now n → OnceReplied σ (Commits levels)
  commits levels σ e =
      asked reply.NoMemory Any σ command.Commit (λ s x rest last. AfterCommit s x levels rest last) (refused_ends (length levels) σ (omega (arith, e)))
      (committed _ (said σ command.Commit) levels (after_it σ command.Commit) (changed levels σ command.Commit refl e))

  -- an attempt that was restarted leaves level 1 alone
  abbrev Left : Option Reply → Held → Type 0
  Left None μ = depth μ.now n ≡ 1
  Left (Some r) μ = Unit {0}

  abbrev OnceLeft : Held → (List Call → Option Reply → Type 0) → Type 0
  OnceLeft σ R = Once (Some reply.NoMemory) Left σ R

  goes : (Rest : ℕ → List PlainTerms → List Call → Option Reply → Type 0) (turn : Turn) (σ : Held) → Kept turn σ → ((k : ℕ) (levels : List PlainTerms) (σ : Held) → length levels ≡ depth σ.now n → OnceLeft σ (Rest k levels)) → OnceLeft σ (Goes Rest turn)
  goes Rest (GoesOn k levels) σ e then_on = then_on k levels σ e
  goes Rest (IsOver r) σ e then_on = here (Some reply.NoMemory) Left σ (Some r) tt
  goes Rest Restarts σ e then_on = here (Some reply.NoMemory) Left σ None e

  attempted : (parts : List Part) (skipped : ℕ) (levels : List PlainTerms) (σ : Held) → length levels ≡ depth σ.now n → OnceLeft σ (IsAttempt parts skipped levels)
  attempted [] skipped levels σ e = record { value = Some k.value; after = k.after; keeps = tt; only = only }
    where
      k : OnceReplied σ (Commits levels)
      k = commits levels σ e

      only : (calls : List Call) (ending : Option Reply) (ν : State) → IsAttempt [] skipped levels calls ending → Ran n σ.now calls ν → (ending ≡ Some reply.NoMemory) ⊎ (ending ≡ Some k.value) × (ν ≡ k.after.now)
      only calls ending ν (last, h, f) ran = elim (k.only calls last ν h ran) [ inl bad ↦ inl (f ∙ ap Some bad) | inr same ↦ inr (f ∙ ap Some same.0, same.1) ]
  attempted (p ∷ parts) zero levels σ e = first_then (goes (IsAttempt parts) k.value k.after k.keeps (λ j later μ f. attempted parts j later μ f))
    where
      k : OnceTurned σ (Serves p levels)
      k = served p levels σ e

      first_then : OnceLeft k.after (Goes (IsAttempt parts) k.value) → OnceLeft σ (IsAttempt (p ∷ parts) zero levels)
      first_then l = record { value = l.value; after = l.after; keeps = l.keeps; only = only }
        where
          by_turn : (turn : Turn) (rest : List Call) (ending : Option Reply) (ρ ν : State) → Goes (IsAttempt parts) turn rest ending → Ran n ρ rest ν → (turn ≡ IsOver reply.NoMemory) ⊎ (turn ≡ k.value) × (ρ ≡ k.after.now)
              → (ending ≡ Some reply.NoMemory) ⊎ (ending ≡ l.value) × (ν ≡ l.after.now)
          by_turn turn rest ending ρ ν h ran (inl bad) = inl (subst (λ (t : Turn). Goes (IsAttempt parts) t rest ending) bad h).1
          by_turn turn rest ending ρ ν h ran (inr same) = l.only rest ending ν (subst (λ (t : Turn). Goes (IsAttempt parts) t rest ending) same.0 h) (subst (λ (μ : State). Ran n μ rest ν) same.1 ran)

          only : (calls : List Call) (ending : Option Reply) (ν : State) → IsAttempt (p ∷ parts) zero levels calls ending → Ran n σ.now calls ν → (ending ≡ Some reply.NoMemory) ⊎ (ending ≡ l.value) × (ν ≡ l.after.now)
          only calls ending ν (now, rest, turn, is, h, more) ran =
              let parted = ran_split n σ.now ν now rest (subst (λ (cs : List Call). Ran n σ.now cs ν) is ran) in
              by_turn turn rest ending parted.0 ν more parted.2 (k.only now turn parted.0 h parted.1)
  attempted (p ∷ parts) (suc j) levels σ e = attempted parts (passed p j) levels σ e

  -- ---- the whole

  tried : (parts : List Part) (Anew : List Call → Reply → Type 0) (σ : Held) → depth σ.now n ≡ 1 → ((μ : Held) → depth μ.now n ≡ 1 → OnceReplied μ Anew) → OnceReplied σ (Tries parts Anew)
  tried parts Anew σ e anew = first_then (follows k.value k.after k.keeps)
    where
      once : OnceLeft σ (IsAttempt parts 0 (none ∷ []))
      once = attempted parts 0 (none ∷ []) σ (sym e)

      k : OnceLeft σ (IsTried parts)
      k = record { value = once.value; after = once.after; keeps = once.keeps; only = only }
        where
          only : (calls : List Call) (ending : Option Reply) (ν : State) → IsTried parts calls ending → Ran n σ.now calls ν → (ending ≡ Some reply.NoMemory) ⊎ (ending ≡ once.value) × (ν ≡ once.after.now)
          only calls ending ν (inl h) ran = once.only calls ending ν h ran
          only calls ending ν (inr (last, h, is)) ran = inl (is ∙ ap Some (refused_ends 1 σ (omega (arith, e)) calls last ν h ran))

      follows : (o : Option Reply) (μ : Held) → Left o μ → OnceReplied μ (Follows Anew o)
      follows (Some r) μ f = here reply.NoMemory Any μ r tt
      follows None μ f = anew μ f

      first_then : OnceReplied k.after (Follows Anew k.value) → OnceReplied σ (Tries parts Anew)
      first_then l = record { value = l.value; after = l.after; keeps = tt; only = only }
        where
          by_ending : (o : Option Reply) (rest : List Call) (last : Reply) (ρ ν : State) → Follows Anew o rest last → Ran n ρ rest ν → (o ≡ Some reply.NoMemory) ⊎ (o ≡ k.value) × (ρ ≡ k.after.now)
              → (last ≡ reply.NoMemory) ⊎ (last ≡ l.value) × (ν ≡ l.after.now)
          by_ending o rest last ρ ν h ran (inl bad) = inl (subst (λ (x : Option Reply). Follows Anew x rest last) bad h).1
          by_ending o rest last ρ ν h ran (inr same) = l.only rest last ν (subst (λ (x : Option Reply). Follows Anew x rest last) same.0 h) (subst (λ (μ : State). Ran n μ rest ν) same.1 ran)

          only : (calls : List Call) (last : Reply) (ν : State) → Tries parts Anew calls last → Ran n σ.now calls ν → (last ≡ reply.NoMemory) ⊎ (last ≡ l.value) × (ν ≡ l.after.now)
          only calls last ν (first, rest, ending, is, h, more) ran =
              let parted = ran_split n σ.now ν first rest (subst (λ (cs : List Call). Ran n σ.now cs ν) is ran) in
              by_ending ending rest last parted.0 ν more parted.2 (k.only first ending parted.0 h parted.1)

  -- the operations are handed in again: nothing is done on the session
  again : (R : List Call → Reply → Type 0) (σ : Held) → OnceReplied σ R → OnceReplied σ (λ ys r. (more : List Call) × (ys ≡ Again ∷ more) × R more r)
  again R σ k = record { value = k.value; after = k.after; keeps = tt; only = λ calls y ν (more, is, h) ran. k.only more y ν h (subst (λ (cs : List Call). Ran n σ.now cs ν) is ran) }

  tries : (parts : List Part) (retries : ℕ) (σ : Held) → depth σ.now n ≡ 1 → OnceReplied σ (Runs parts retries)
  tries parts zero σ e = tried parts _ σ e (λ μ f. ends 1 μ reply.NoMore (omega (arith, f)))
  tries parts (suc j) σ e = tried parts _ σ e (λ μ f. again (Runs parts j) μ (tries parts j μ f))

  opened : (s : Sort) (x : Reply) (parts : List Part) (retries : ℕ) (σ : Held) → (s ≡ sort.Opened → depth σ.now n ≡ 1) → OnceReplied σ (Opens s x parts retries)
  opened sort.Opened x parts retries σ e = tries parts retries σ (e refl)
  opened s x parts retries σ e = here reply.NoMemory Any σ x tt

  driven : (parts : List Part) (retries : ℕ) (σ : Held) → OnceReplied σ (IsRun parts retries)
  driven parts retries σ = record { value = k.value; after = k.after; keeps = tt; only = only }
    where
      k : OnceReplied σ (λ calls last. Asks (command.OneShot parts retries) (λ s x rest. Opens s x parts retries rest last) calls)
      k = asked reply.NoMemory Any σ (command.OneShot parts retries) (λ s x rest last. Opens s x parts retries rest last) (λ rest y ν h ran. h.1)
          (opened _ (said σ (command.OneShot parts retries)) parts retries (after_it σ (command.OneShot parts retries)) (opens σ.now (over_of σ (command.OneShot parts retries)) n parts retries))

      only : (calls : List Call) (last : Reply) (ν : State) → IsRun parts retries calls last → Ran n σ.now calls ν → (last ≡ reply.NoMemory) ⊎ (last ≡ k.value) × (ν ≡ k.after.now)
      only calls last ν (inl h) ran = k.only calls last ν h ran
      only calls last ν (inr h) ran = inl h.1

pub driven_once : (σ μ ν : State) (n : ℕ) (c : Command) (r q : Reply) → IsBounded σ → r ≢ reply.NoMemory → q ≢ reply.NoMemory → IsDriven σ n c r μ → IsDriven σ n c q ν → (r ≡ q) × (μ ≡ ν)
driven_once σ μ ν n (command.OneShot parts retries) r q bounded e f h k = both (only h.calls r μ h.one_shot h.ran) (only k.calls q ν k.one_shot k.ran)
  where
    d : OnceReplied n (record { now = σ; bounded = bounded }) (IsRun parts retries)
    d = driven n parts retries (record { now = σ; bounded = bounded })

    only : (calls : List Call) (last : Reply) (τ : State) → IsRun parts retries calls last → Ran n σ calls τ → (last ≡ reply.NoMemory) ⊎ (last ≡ d.value) × (τ ≡ d.after.now)
    only = d.only

    both : (r ≡ reply.NoMemory) ⊎ (r ≡ d.value) × (μ ≡ d.after.now) → (q ≡ reply.NoMemory) ⊎ (q ≡ d.value) × (ν ≡ d.after.now) → (r ≡ q) × (μ ≡ ν)
    both (inl bad) k = absurd (e bad)
    both (inr h) (inl bad) = absurd (f bad)
    both (inr h) (inr k) = (h.0 ∙ sym k.0, h.1 ∙ sym k.1)
driven_once σ μ ν n c r q bounded e f h k = absurd h.one_shot
