-- The commands of a one-shot, what its last reply can be, and how often it restarts.
use Rattle.std.proofs.Common.{◌≡◌, ℕ, zero, suc, ◌+◌, ◌≤◌, List, [], ◌∷◌, ◌++◌, length, refl, sym, ap, subst, inl, inr, arith}
use Rattle.std.specs.Prelude.{pos, Bool, true, false, Option, Some, None}
use Rattle.tab_term.specs.Data.{PlainTerms}
use Rattle.tab_term.specs.declared.term.Term.TheVariants.{Int}
use Rattle.tab_model.specs.declared.data.Part.{Part}
use Rattle.tab_model.specs.declared.data.Part.TheVariants as part
use Rattle.tab_model.specs.declared.data.Command.{Command}
use Rattle.tab_model.specs.declared.data.Command.TheVariants as command
use Rattle.tab_model.specs.declared.data.Reply.{Reply}
use Rattle.tab_model.specs.declared.data.Reply.TheVariants as reply
use Rattle.tab_oneshot.specs.declared.answer.Sort.{Sort}
use Rattle.tab_oneshot.specs.declared.answer.Sort.TheVariants as sort
use Rattle.tab_oneshot.specs.Calls.{Call, Asked, Waited, Again, agains}
use Rattle.tab_oneshot.specs.Attempts.{sort_of, Ended, Ends, Turn, GoesOn, IsOver, Restarts, AsItIs, Stops, Puts, LevelEnds, AfterOperation, AfterWait, AfterAsked, AfterAbort, AfterBegin, Joins, AfterInner, AfterCommit, HandsIn, Serves, passed, Goes, IsAttempt}
use Rattle.tab_oneshot.specs.OneShots.{Follows, IsTried, Runs, Opens, IsOneShot}

agains_join : (xs ys : List Call) → agains (xs ++ ys) ≡ agains xs + agains ys
agains_join [] ys = omega arith
agains_join (Asked c r ∷ xs) ys = agains_join xs ys
agains_join (Waited w ∷ xs) ys = agains_join xs ys
agains_join (Again ∷ xs) ys = omega (arith, agains_join xs ys)

-- the commands of a driver
abbrev pub is_handed : Command → Bool
is_handed command.Begin = true
is_handed command.Commit = true
is_handed (command.Abort r) = true
is_handed (command.Do o) = true
is_handed (command.OneShot parts retries) = true
is_handed c = false

abbrev pub AllHanded : List Call → Type 0
AllHanded [] = Unit {0}
AllHanded (Asked c r ∷ calls) = (is_handed c ≡ true) × AllHanded calls
AllHanded (Waited w ∷ calls) = AllHanded calls
AllHanded (Again ∷ calls) = AllHanded calls

handed_join : (xs ys : List Call) → AllHanded xs → AllHanded ys → AllHanded (xs ++ ys)
handed_join [] ys h k = k
handed_join (Asked c r ∷ xs) ys h k = (h.0, handed_join xs ys h.1 k)
handed_join (Waited w ∷ xs) ys h k = handed_join xs ys h k
handed_join (Again ∷ xs) ys h k = handed_join xs ys h k

module _ (P : Reply → Type 0) where
  abbrev pub Awaited : Option Reply → Type 0
  Awaited None = Unit {0}
  Awaited (Some r) = P r

  -- each answer in the calls has the property
  abbrev pub Answers : List Call → Type 0
  Answers [] = Unit {0}
  Answers (Asked c r ∷ calls) = P r × Answers calls
  Answers (Waited w ∷ calls) = Awaited w × Answers calls
  Answers (Again ∷ calls) = Answers calls

  -- and so have the replies that are the driver's own
  pub record Own : Type 0 where
    pub no_memory : P reply.NoMemory
    pub no_wait : P reply.NoWait
    pub no_more : P reply.NoMore
    pub terms : (ts : PlainTerms) → P (reply.AtomicTerms ts)

  abbrev Over : Turn → Type 0
  Over (GoesOn n levels) = Unit {0}
  Over (IsOver r) = P r
  Over Restarts = Unit {0}

  -- the calls restart at most so often and run a driver's commands, and where each answer in them has the property,
  -- this holds
  record Leads (n : ℕ) (calls : List Call) (G : Type 0) : Type 0 where
    pub count : agains calls ≤ n
    pub handed : AllHanded calls
    pub gives : Answers calls → G

  answers_split : (xs ys : List Call) → Answers (xs ++ ys) → Answers xs × Answers ys
  answers_split [] ys h = (tt, h)
  answers_split (Asked c r ∷ xs) ys h = let s = answers_split xs ys h.1 in ((h.0, s.0), s.1)
  answers_split (Waited w ∷ xs) ys h = let s = answers_split xs ys h.1 in ((h.0, s.0), s.1)
  answers_split (Again ∷ xs) ys h = answers_split xs ys h

  to : {F G : Type 0} (n : ℕ) (calls : List Call) → (F → G) → Leads n calls F → Leads n calls G
  to n calls f l = record { count = l.count; handed = l.handed; gives = λ a. f (l.gives a) }

  nothing : {G : Type 0} (n : ℕ) (calls : List Call) → calls ≡ [] → G → Leads n calls G
  nothing n calls e g = record { count = omega (arith, ap agains e); handed = subst AllHanded (sym e) tt; gives = λ a. g }

  asks : {G : Type 0} (n : ℕ) (c : Command) (x : Reply) (calls rest : List Call) → is_handed c ≡ true → calls ≡ Asked c x ∷ rest → Leads n rest (P x → G) → Leads n calls G
  asks {G} n c x calls rest h e l = subst (λ cs. Leads n cs G) (sym e) (record { count = l.count; handed = (h, l.handed); gives = λ a. l.gives a.1 a.0 })

  waits : {G : Type 0} (n : ℕ) (w : Option Reply) (calls rest : List Call) → calls ≡ Waited w ∷ rest → Leads n rest (Awaited w → G) → Leads n calls G
  waits {G} n w calls rest e l = subst (λ cs. Leads n cs G) (sym e) (record { count = l.count; handed = l.handed; gives = λ a. l.gives a.1 a.0 })

  join : {F G : Type 0} (n : ℕ) (calls first rest : List Call) → calls ≡ first ++ rest → Leads 0 first F → Leads n rest (F → G) → Leads n calls G
  join {F} {G} n calls first rest e l k = record {
    count = omega (arith, ap agains e, agains_join first rest, l.count, k.count);
    handed = subst AllHanded (sym e) (handed_join first rest l.handed k.handed);
    gives = λ a. let s = answers_split first rest (subst Answers e a) in k.gives s.1 (l.gives s.0);
  }

  -- ---- ends of levels

  ends : (n : ℕ) (r : Reply) (calls : List Call) (last : Reply) → Ends n r calls last → Leads 0 calls (P r → P last)
  ends zero r calls last (e, f) = nothing 0 calls e (λ p. subst P (sym f) p)
  ends (suc n) r calls last (x, rest, e, h) = asks 0 (command.Abort (Int (pos 0))) x calls rest refl e (by_sort (sort_of x) (ends n r rest last) h)
    where
      by_sort : (s : Sort) → (Ends n r rest last → Leads 0 rest (P r → P last)) → Ended s x (λ ys. Ends n r ys last) rest last → Leads 0 rest (P x → P r → P last)
      by_sort sort.Aborted then_ends h = to 0 rest (λ k p. k) (then_ends h)
      by_sort s then_ends (e, f) = nothing 0 rest e (λ p q. subst P (sym f) p)

  as_it_is : (r : Reply) (calls : List Call) (turn : Turn) → AsItIs r calls turn → Leads 0 calls (P r → Over turn)
  as_it_is r calls turn (e, f) = nothing 0 calls e (λ p. subst Over (sym f) p)

  stops : (r : Reply) (levels : List PlainTerms) (calls : List Call) (turn : Turn) → Stops r levels calls turn → Leads 0 calls (P r → Over turn)
  stops r levels calls turn (last, h, f) = to 0 calls (λ k p. subst Over (sym f) (k p)) (ends (length levels) r calls last h)

  module _ (own : Own) where
    puts : (skipped : ℕ) (r : Reply) (levels : List PlainTerms) (calls : List Call) (turn : Turn) → Puts skipped r levels calls turn → Leads 0 calls (Over turn)
    puts skipped r levels calls turn (inl (e, f)) = nothing 0 calls e (subst Over (sym f) tt)
    puts skipped r levels calls turn (inr h) = to 0 calls (λ k. k own.no_memory) (stops reply.NoMemory levels calls turn h)

    level_ends : (r : Reply) (levels : List PlainTerms) (calls : List Call) (turn : Turn) → LevelEnds r levels calls turn → Leads 0 calls (P r → Over turn)
    level_ends r [] calls turn h = as_it_is r calls turn h
    level_ends r (ts ∷ []) calls turn h = as_it_is r calls turn h
    level_ends r (ts ∷ us ∷ outer) calls turn h = to 0 calls (λ k p. k) (puts 1 r (us ∷ outer) calls turn h)

    operation : (s : Sort) (r : Reply) (levels : List PlainTerms) (calls : List Call) (turn : Turn) → AfterOperation s r levels calls turn → Leads 0 calls (P r → Over turn)
    operation sort.Answered r levels calls turn h = to 0 calls (λ k p. k) (puts 0 r levels calls turn h)
    operation sort.Failed r levels calls turn h = level_ends r levels calls turn h
    operation sort.Restarted r levels calls turn (e, f) = nothing 0 calls e (λ p. subst Over (sym f) tt)
    operation sort.Refused r levels calls turn h = stops r levels calls turn h
    operation s r levels calls turn h = as_it_is r calls turn h

    waited : (w : Option Reply) (levels : List PlainTerms) (calls : List Call) (turn : Turn) → AfterWait w levels calls turn → Leads 0 calls (Awaited w → Over turn)
    waited None levels calls turn h = to 0 calls (λ k p. k own.no_wait) (stops reply.NoWait levels calls turn h)
    waited (Some r) levels calls turn h = operation (sort_of r) r levels calls turn h

    operated : (s : Sort) (r : Reply) (levels : List PlainTerms) (calls : List Call) (turn : Turn) → AfterAsked s r levels calls turn → Leads 0 calls (P r → Over turn)
    operated sort.Waits r levels calls turn (w, rest, e, h) = waits 0 w calls rest e (to 0 rest (λ k p q. k p) (waited w levels rest turn h))
    operated s r levels calls turn h = operation s r levels calls turn h

    aborted : (s : Sort) (r : Reply) (levels : List PlainTerms) (calls : List Call) (turn : Turn) → AfterAbort s r levels calls turn → Leads 0 calls (P r → Over turn)
    aborted sort.Aborted r levels calls turn h = level_ends r levels calls turn h
    aborted sort.Refused r levels calls turn h = stops r levels calls turn h
    aborted s r levels calls turn h = as_it_is r calls turn h

    begun : (s : Sort) (r : Reply) (levels : List PlainTerms) (calls : List Call) (turn : Turn) → AfterBegin s r levels calls turn → Leads 0 calls (P r → Over turn)
    begun sort.Opened r levels calls turn (e, f) = nothing 0 calls e (λ p. subst Over (sym f) tt)
    begun sort.Refused r levels calls turn h = stops r levels calls turn h
    begun s r levels calls turn h = as_it_is r calls turn h

    joins : (r : Reply) (levels : List PlainTerms) (calls : List Call) (turn : Turn) → Joins r levels calls turn → Leads 0 calls (P r → Over turn)
    joins r [] calls turn h = as_it_is r calls turn h
    joins r (ts ∷ []) calls turn h = as_it_is r calls turn h
    joins r (ts ∷ us ∷ outer) calls turn h = to 0 calls (λ k p. k) (puts 0 (reply.AtomicTerms ts) (us ∷ outer) calls turn h)

    inner : (s : Sort) (r : Reply) (levels : List PlainTerms) (calls : List Call) (turn : Turn) → AfterInner s r levels calls turn → Leads 0 calls (P r → Over turn)
    inner sort.Joined r levels calls turn h = joins r levels calls turn h
    inner sort.Refused r levels calls turn h = stops r levels calls turn h
    inner s r levels calls turn h = as_it_is r calls turn h

    handed : (p : Part) (levels : List PlainTerms) (calls : List Call) (turn : Turn) → HandsIn p levels calls turn → Leads 0 calls (Over turn)
    handed (part.Do o) levels calls turn (x, rest, e, h) = asks 0 (command.Do o) x calls rest refl e (operated (sort_of x) x levels rest turn h)
    handed (part.Abort r) levels calls turn (x, rest, e, h) = asks 0 (command.Abort r) x calls rest refl e (aborted (sort_of x) x levels rest turn h)
    handed part.Open levels calls turn (x, rest, e, h) = asks 0 command.Begin x calls rest refl e (begun (sort_of x) x levels rest turn h)
    handed part.Close levels calls turn (x, rest, e, h) = asks 0 command.Commit x calls rest refl e (inner (sort_of x) x levels rest turn h)

    served : (p : Part) (levels : List PlainTerms) (calls : List Call) (turn : Turn) → Serves p levels calls turn → Leads 0 calls (Over turn)
    served p levels calls turn (inl h) = handed p levels calls turn h
    served p levels calls turn (inr h) = to 0 calls (λ k. k own.no_memory) (stops reply.NoMemory levels calls turn h.1)

    -- ---- attempts

    committed : (s : Sort) (r : Reply) (levels : List PlainTerms) (calls : List Call) (last : Reply) → AfterCommit s r levels calls last → Leads 0 calls (P r → P last)
    committed sort.Committed r levels calls last (e, f) = nothing 0 calls e (λ p. subst P (sym f) (own.terms _))
    committed sort.Refused r levels calls last h = ends (length levels) r calls last h
    committed s r levels calls last (e, f) = nothing 0 calls e (λ p. subst P (sym f) p)

    attempted : (parts : List Part) (skipped : ℕ) (levels : List PlainTerms) (calls : List Call) (ending : Option Reply) → IsAttempt parts skipped levels calls ending → Leads 0 calls (Awaited ending)
    attempted [] skipped levels calls ending (last, (x, rest, e, h), f) = asks 0 command.Commit x calls rest refl e (to 0 rest (λ k p. subst Awaited (sym f) (k p)) (committed (sort_of x) x levels rest last h))
    attempted (p ∷ parts) zero levels calls ending (now, rest, turn, e, h, goes) = join 0 calls now rest e (served p levels now turn h) (by_turn turn (λ n later. attempted parts n later rest ending) goes)
      where
        by_turn : (turn : Turn) → ((n : ℕ) (later : List PlainTerms) → IsAttempt parts n later rest ending → Leads 0 rest (Awaited ending)) → Goes (IsAttempt parts) turn rest ending → Leads 0 rest (Over turn → Awaited ending)
        by_turn (GoesOn n later) then_goes h = to 0 rest (λ k p. k) (then_goes n later h)
        by_turn (IsOver r) then_goes (e, f) = nothing 0 rest e (λ p. subst Awaited (sym f) p)
        by_turn Restarts then_goes (e, f) = nothing 0 rest e (λ p. subst Awaited (sym f) tt)
    attempted (p ∷ parts) (suc n) levels calls ending h = attempted parts (passed p n) levels calls ending h

    tried : (parts : List Part) (calls : List Call) (ending : Option Reply) → IsTried parts calls ending → Leads 0 calls (Awaited ending)
    tried parts calls ending (inl h) = attempted parts 0 _ calls ending h
    tried parts calls ending (inr (last, h, f)) = to 0 calls (λ k. subst Awaited (sym f) (k own.no_memory)) (ends 1 reply.NoMemory calls last h)

    ran : (parts : List Part) (retries : ℕ) (calls : List Call) (last : Reply) → Runs parts retries calls last → Leads retries calls (P last)
    ran parts zero calls last (first, rest, ending, e, h, more) = join 0 calls first rest e (tried parts first ending h) (by_ending ending more)
      where
        by_ending : (o : Option Reply) → Follows (λ ys r. Ends 1 reply.NoMore ys r) o rest last → Leads 0 rest (Awaited o → P last)
        by_ending (Some r) (e, f) = nothing 0 rest e (λ p. subst P (sym f) p)
        by_ending None h = to 0 rest (λ k p. k own.no_more) (ends 1 reply.NoMore rest last h)
    ran parts (suc n) calls last (first, rest, ending, e, h, more) = join (suc n) calls first rest e (tried parts first ending h) (by_ending ending (λ ys. ran parts n ys last) more)
      where
        anew : (ys : List Call) → rest ≡ Again ∷ ys → Leads n ys (P last) → Leads (suc n) rest (Unit {0} → P last)
        anew ys e l = subst (λ cs. Leads (suc n) cs (Unit {0} → P last)) (sym e) (record { count = omega (arith, l.count); handed = l.handed; gives = λ a p. l.gives a })

        by_ending : (o : Option Reply) → ((ys : List Call) → Runs parts n ys last → Leads n ys (P last)) → Follows (λ ys r. (more : List Call) × (ys ≡ Again ∷ more) × Runs parts n more r) o rest last → Leads (suc n) rest (Awaited o → P last)
        by_ending (Some r) then_runs (e, f) = nothing (suc n) rest e (λ p. subst P (sym f) p)
        by_ending None then_runs (ys, e, h) = anew ys e (then_runs ys h)

    opened : (s : Sort) (x : Reply) (parts : List Part) (retries : ℕ) (calls : List Call) (last : Reply) → Opens s x parts retries calls last → Leads retries calls (P x → P last)
    opened sort.Opened x parts retries calls last h = to retries calls (λ k p. k) (ran parts retries calls last h)
    opened s x parts retries calls last (e, f) = nothing retries calls e (λ p. subst P (sym f) p)

    one_shot : (parts : List Part) (retries : ℕ) (calls : List Call) (last : Reply) → IsOneShot (command.OneShot parts retries) calls last → Leads retries calls (P last)
    one_shot parts retries calls last (inl (x, rest, e, h)) = asks retries (command.OneShot parts retries) x calls rest refl e (opened (sort_of x) x parts retries rest last h)
    one_shot parts retries calls last (inr (e, f)) = nothing retries calls e (subst P (sym f) own.no_memory)

    -- the last reply is one of the answers, or the driver's own
    pub last_reply : (c : Command) (calls : List Call) (last : Reply) → IsOneShot c calls last → Answers calls → P last
    last_reply (command.OneShot parts retries) calls last h a = (one_shot parts retries calls last h).gives a
    last_reply c calls last h a = absurd h

-- a property of every reply
any_reply : Own (λ r. Unit {0})
any_reply = record { no_memory = tt; no_wait = tt; no_more = tt; terms = λ ts. tt }

pub all_handed : (c : Command) (calls : List Call) (last : Reply) → IsOneShot c calls last → AllHanded calls
all_handed (command.OneShot parts retries) calls last h = (one_shot (λ r. Unit {0}) any_reply parts retries calls last h).handed
all_handed c calls last h = absurd h

pub begins_anew : (parts : List Part) (retries : ℕ) (calls : List Call) (last : Reply) → IsOneShot (command.OneShot parts retries) calls last → agains calls ≤ retries
begins_anew parts retries calls last h = (one_shot (λ r. Unit {0}) any_reply parts retries calls last h).count
