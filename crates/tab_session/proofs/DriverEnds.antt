-- What the driver of a one-shot leaves on its session: no transaction, no request, and the tables as before or as its parts leave them alone.
use Rattle.std.proofs.Common.{◌≡◌, ◌≢◌, ℕ, zero, suc, pos, List, [], ◌∷◌, Bool, true, false, length, refl, sym, ap, subst, ◌∙◌, inl, inr, arith, ◌⊎◌, Option, Some, None}
use Rattle.std.specs.Prelude.{◌==◌, ◌&&◌, if◌then◌else◌, is_some}
use Rattle.tab_term.specs.Data.{PlainTerms, none}
use Rattle.tab_term.specs.declared.term.Term.{Term}
use Rattle.tab_term.specs.declared.term.Term.TheVariants.{Int}
use Rattle.tab_model.specs.declared.data.Operation.{Operation}
use Rattle.tab_model.specs.declared.data.Move.TheVariants as move
use Rattle.tab_model.specs.declared.data.Part.{Part}
use Rattle.tab_model.specs.declared.data.Part.TheVariants as part
use Rattle.tab_model.specs.declared.data.Command.{Command}
use Rattle.tab_model.specs.declared.data.Command.TheVariants as command
use Rattle.tab_model.specs.declared.data.Reply.{Reply}
use Rattle.tab_model.specs.declared.data.Reply.TheVariants as reply
use Rattle.tab_model.specs.Catalogs.{Catalog}
use Rattle.tab_model.specs.Operations.{failure}
use Rattle.tab_model.specs.Alone.{Mid, start, next, back_to, without_innermost}
use Rattle.tab_model.specs.State.{Transaction, Session, Queued, State, session_at, transaction_at, is_waiting, request_in, HasAge, OwnedBy, IsSound}
use Rattle.tab_model.specs.Reached.{IsRising}
use Rattle.tab_model.specs.declared.ask.Ask.TheVariants.{Do as DoCommand}
use Rattle.tab_model.specs.Outcome.{Outcome, outcome, step_of}
use Rattle.tab_model.proofs.StepCases.{command_if}
use Rattle.tab_model.proofs.SessionLists.{found, eq_true}
use Rattle.tab_session.specs.StepsMade.{StepMadeOrRefused}
use Rattle.tab_proto.specs.Replies.{reply_term}
use Rattle.tab_proto.specs.Commands.{is_nested, is_command}
use Rattle.tab_oneshot.specs.declared.answer.Sort.{Sort}
use Rattle.tab_oneshot.specs.declared.answer.Sort.TheVariants as sort
use Rattle.tab_oneshot.specs.Attempts.{sort_of}
use Rattle.tab_oneshot.specs.Calls.{Call, Asked}
use Rattle.tab_oneshot.specs.Attempts.{Ended, Ends, Turn, GoesOn, IsOver, Restarts, Stops, Puts, LevelEnds, AfterOperation, AfterWait, AfterAsked, AfterAbort, AfterBegin, Joins, AfterInner, AfterCommit, HandsIn, Serves, passed, Goes, IsAttempt, told, innermost}
use Rattle.tab_oneshot.specs.OneShots.{Follows, IsTried, Tries, Runs, Opens, IsRun}
use Rattle.tab_session.specs.OneSessions.{Ran, IsDriven}
use Rattle.tab_session.specs.PartsAlone as alone
use Rattle.tab_session.specs.PartsAlone.{run_on, run_alone}
use Rattle.tab_oneshot.proofs.LastReplies.{all_handed}
use Rattle.tab_session.specs.Accounts.{IsOneCommit, of_calls}
use Rattle.tab_session.proofs.DriverLogs.{logs_one, logs_none}
use Rattle.tab_session.proofs.DriverSteps.{if_true, if_false}
use Rattle.tab_session.proofs.DriverOnce.{ran_split, told_length}
use Rattle.tab_session.proofs.DriverLeaves.{is_atomic, Within, Inside, Outside, Committed, Back, Did, Aborted, Began, Closed, Opened, did, begun, closed, aborted, opened}

-- a reply that a sort tells is no {atomic, Replies}, which is the driver's own
not_atomic : (r : Reply) (s : Sort) → sort_of r ≡ s → (s ≡ sort.Other → ⊥) → is_atomic r ≡ false
not_atomic (reply.AtomicTerms ts) s e f = absurd (f (sym e))
not_atomic r s e f = refl

-- the reason by which a driver ends levels
abbrev reason : Term
reason = Int (pos 0)

-- how many levels are open around the parts that are still to come
abbrev around : ℕ → List Catalog → ℕ
around zero ws = length ws
around (suc j) ws = suc (around j ws)

-- session n runs a one-shot on tables w, after k commits, by a transaction of age a
module _ (n : ℕ) (w : Catalog) (k a : ℕ) where
  -- the attempt goes on behind the ends of so many levels: all parts come to what the parts that are left come to from here
  record Stands (parts : List Part) (all : Option alone.Commit) (skipped : ℕ) (levels : List PlainTerms) (μ : State) : Type 0 where
    pub m : Mid
    pub inside : Inside n w k a m μ
    pub length_is : length levels ≡ suc (length m.saved)
    pub alone_is : all ≡ run_on parts skipped m levels
    pub nested : is_nested (around skipped m.saved) parts ≡ true

  abbrev Turned : List Part → Option alone.Commit → Turn → State → Type 0
  Turned parts all (GoesOn skipped levels) μ = Stands parts all skipped levels μ
  Turned parts all (IsOver r) μ = (is_atomic r ≡ false) × Outside n w k a μ
  Turned parts all Restarts μ = Inside n w k a (start w a) μ

  -- ---- ends of levels

  abbrev Over : Reply → Reply → State → Type 0
  Over r last ν = (last ≡ r) × Outside n w k a ν

  one_end : (ws : List Catalog) (m : Mid) (σ : State) (r : Reply) (calls : List Call) (last : Reply) (ν : State) → m.saved ≡ ws → Within n w k a m σ
      → ((μ : State) (rest : List Call) → Back n w k a ws m μ → Ends (length ws) r rest last → Ran n μ rest ν → Over r last ν)
      → Ends (suc (length ws)) r calls last → Ran n σ calls ν → Over r last ν
  one_end ws m σ r calls last ν e h then_on (x, rest, is, after) ran = after_step (subst (λ (cs : List Call). Ran n σ cs ν) is ran)
    where
      by_sort : (s : Sort) (μ : State) → Aborted n w k a s x m reason μ → Ended s x (λ ys. Ends (length ws) r ys last) rest last → Ran n μ rest ν → Over r last ν
      by_sort sort.Aborted μ (told_so, left) f ran = then_on μ rest (subst (λ (vs : List Catalog). Back n w k a vs m μ) e left) f ran
      by_sort s μ not_so f ran = absurd not_so

      after_step : Ran n σ (Asked (command.Abort reason) x ∷ rest) ν → Over r last ν
      after_step (μ, one, ran) = by_sort (sort_of x) μ (aborted n w k a σ μ m reason x h one) after ran

  -- a reply after which all open levels are ended stays the reply
  ends : (ws : List Catalog) (m : Mid) (σ : State) (r : Reply) (calls : List Call) (last : Reply) (ν : State) → m.saved ≡ ws → Within n w k a m σ → Ends (suc (length ws)) r calls last → Ran n σ calls ν → Over r last ν
  ends [] m σ r calls last ν e h f ran = one_end [] m σ r calls last ν e h (λ μ rest left g ran. (g.1, subst (λ (τ : State). Outside n w k a τ) (sym (subst (λ (cs : List Call). Ran n μ cs ν) g.0 ran)) left)) f ran
  ends (v ∷ vs) m σ r calls last ν e h f ran = one_end (v ∷ vs) m σ r calls last ν e h (λ μ rest left g ran. ends vs (back_to m (v ∷ vs)) μ r rest last ν refl left.stands g ran) f ran

  all_end : (levels : List PlainTerms) (m : Mid) (σ : State) (r : Reply) (calls : List Call) (last : Reply) (ν : State) → length levels ≡ suc (length m.saved) → Within n w k a m σ → Ends (length levels) r calls last → Ran n σ calls ν → Over r last ν
  all_end levels m σ r calls last ν e h f ran = ends m.saved m σ r calls last ν refl h (subst (λ (j : ℕ). Ends j r calls last) e f) ran

  -- ---- what follows an answer

  none_called : (T : State → Type 0) (σ ν : State) (calls : List Call) → calls ≡ [] → Ran n σ calls ν → T σ → T ν
  none_called T σ ν calls e ran h = subst T (sym (subst (λ (cs : List Call). Ran n σ cs ν) e ran)) h

  module _ (parts : List Part) (all : Option alone.Commit) where
    abbrev Leads : Turn → State → Type 0
    Leads turn ν = Turned parts all turn ν

    leads : (turn at : Turn) (σ ν : State) (calls : List Call) → calls ≡ [] → turn ≡ at → Ran n σ calls ν → Leads at σ → Leads turn ν
    leads turn at σ ν calls e f ran h = subst (λ (t : Turn). Leads t ν) (sym f) (none_called (Leads at) σ ν calls e ran h)

    stops : (r : Reply) (levels : List PlainTerms) (m : Mid) (σ : State) (calls : List Call) (turn : Turn) (ν : State) → is_atomic r ≡ false → length levels ≡ suc (length m.saved) → Within n w k a m σ → Stops r levels calls turn → Ran n σ calls ν → Leads turn ν
    stops r levels m σ calls turn ν plain e h (last, f, is) ran =
        let over = all_end levels m σ r calls last ν e h f ran in
        subst (λ (t : Turn). Leads t ν) (sym is) (subst (λ (x : Reply). is_atomic x ≡ false) (sym over.0) plain, over.1)

    puts : (skipped : ℕ) (r : Reply) (levels : List PlainTerms) (σ : State) (calls : List Call) (turn : Turn) (ν : State) → Stands parts all skipped (told (reply_term r) levels) σ → Puts skipped r levels calls turn → Ran n σ calls ν → Leads turn ν
    puts skipped r levels σ calls turn ν s (inl (e, f)) ran = leads turn _ σ ν calls e f ran s
    puts skipped r levels σ calls turn ν s (inr h) ran = stops reply.NoMemory levels s.m σ calls turn ν refl (sym (told_length (reply_term r) levels) ∙ s.length_is) s.inside.stands h ran

    level_ends : (ws : List Catalog) (r : Reply) (levels : List PlainTerms) (m : Mid) (σ : State) (calls : List Call) (turn : Turn) (ν : State) → m.saved ≡ ws → is_atomic r ≡ false → length levels ≡ suc (length ws) → all ≡ alone.ended (run_on parts) m r levels → is_nested (length ws) parts ≡ true
        → Back n w k a ws m σ → LevelEnds r levels calls turn → Ran n σ calls ν → Leads turn ν
    level_ends ws r [] m σ calls turn ν e plain f g nested left h ran = absurd (omega (arith, f))
    level_ends [] r (ts ∷ []) m σ calls turn ν e plain f g nested left (none_left, is) ran = leads turn (IsOver r) σ ν calls none_left is ran (plain, left)
    level_ends (v ∷ vs) r (ts ∷ []) m σ calls turn ν e plain f g nested left h ran = absurd (omega (arith, f))
    level_ends [] r (ts ∷ us ∷ outer) m σ calls turn ν e plain f g nested left h ran = absurd (omega (arith, f))
    level_ends (v ∷ vs) r (ts ∷ us ∷ outer) m σ calls turn ν e plain f g nested left h ran =
        puts 1 r (us ∷ outer) σ calls turn ν (record {
          m = back_to m (v ∷ vs);
          inside = left;
          length_is = omega (arith, f);
          alone_is = g ∙ ap (λ (ws : List Catalog). run_on parts 1 (back_to m ws) (told (reply_term r) (us ∷ outer))) e;
          nested = nested;
        }) h ran

  -- ---- a part

  module _ (parts : List Part) (levels : List PlainTerms) (m : Mid) (length_is : length levels ≡ suc (length m.saved)) where
    operated : (o : Operation) (s : Sort) (r : Reply) (σ : State) (calls : List Call) (turn : Turn) (ν : State) → sort_of r ≡ s → (s ≡ sort.Waits → ⊥) → is_nested (length m.saved) parts ≡ true
        → Did n w k a s r m o σ → AfterOperation s r levels calls turn → Ran n σ calls ν → Turned parts (run_on (part.Do o ∷ parts) 0 m levels) turn ν
    operated o sort.Answered r σ calls turn ν is quick nested (fits, same, inside) h ran =
        let saved_is : (next m (move.Do o)).saved ≡ m.saved = ap (λ (b : Mid). b.saved) (if_false (is_some (failure m.now o)) _ _ fits) in
        puts parts _ 0 r levels σ calls turn ν (record {
          m = next m (move.Do o);
          inside = inside;
          length_is = told_length (reply_term r) levels ∙ length_is ∙ ap (λ (ws : List Catalog). suc (length ws)) (sym saved_is);
          alone_is = if_false (is_some (failure m.now o)) _ _ fits ∙ ap (λ (x : Reply). run_on parts 0 (next m (move.Do o)) (told (reply_term x) levels)) (sym same);
          nested = subst (λ (ws : List Catalog). is_nested (length ws) parts ≡ true) (sym saved_is) nested;
        }) h ran
    operated o sort.Failed r σ calls turn ν is quick nested (fails, same, left) h ran =
        level_ends parts _ m.saved r levels m σ calls turn ν refl (not_atomic r sort.Failed is (λ e. cc)) length_is
        (if_true (is_some (failure m.now o)) _ _ fails ∙ ap (λ (x : Reply). alone.ended (run_on parts) m x levels) (sym same)) nested left h ran
    operated o sort.Restarted r σ calls turn ν is quick nested inside (none_left, f) ran = leads parts _ turn Restarts σ ν calls none_left f ran inside
    operated o sort.Refused r σ calls turn ν is quick nested inside h ran = stops parts _ r levels m σ calls turn ν (not_atomic r sort.Refused is (λ e. cc)) length_is inside.stands h ran
    operated o sort.Waits r σ calls turn ν is quick nested inside h ran = absurd (quick refl)
    operated o s r σ calls turn ν is quick nested not_so h ran = absurd not_so

    -- no one can wait
    waited : (all : Option alone.Commit) (v : Option Reply) (σ : State) (calls : List Call) (turn : Turn) (ν : State) → Within n w k a m σ → v ≡ None → AfterWait v levels calls turn → Ran n σ calls ν → Turned parts all turn ν
    waited all None σ calls turn ν within e h ran = stops parts all reply.NoWait levels m σ calls turn ν refl length_is within h ran
    waited all (Some r) σ calls turn ν within e h ran = cc

    asked : (o : Operation) (s : Sort) (r : Reply) (σ : State) (calls : List Call) (turn : Turn) (ν : State) → sort_of r ≡ s → is_nested (length m.saved) parts ≡ true
        → Did n w k a s r m o σ → AfterAsked s r levels calls turn → Ran n σ calls ν → Turned parts (run_on (part.Do o ∷ parts) 0 m levels) turn ν
    asked o sort.Waits r σ calls turn ν is nested within (v, rest, e, h) ran = let on = subst (λ (cs : List Call). Ran n σ cs ν) e ran in waited _ v σ rest turn ν within on.0 h on.1
    asked o s r σ calls turn ν is nested done h ran = operated o s r σ calls turn ν is (λ e. cc) nested done h ran

    undone : (t : Term) (s : Sort) (r : Reply) (σ : State) (calls : List Call) (turn : Turn) (ν : State) → sort_of r ≡ s → is_nested (length m.saved) parts ≡ true
        → Aborted n w k a s r m t σ → AfterAbort s r levels calls turn → Ran n σ calls ν → Turned parts (run_on (part.Abort t ∷ parts) 0 m levels) turn ν
    undone t sort.Aborted r σ calls turn ν is nested (same, left) h ran =
        level_ends parts _ m.saved r levels m σ calls turn ν refl (not_atomic r sort.Aborted is (λ e. cc)) length_is (ap (λ (x : Reply). alone.ended (run_on parts) m x levels) (sym same)) nested left h ran
    undone t s r σ calls turn ν is nested not_so h ran = absurd not_so

    nests : (s : Sort) (r : Reply) (σ : State) (calls : List Call) (turn : Turn) (ν : State) → sort_of r ≡ s → is_nested (suc (length m.saved)) parts ≡ true
        → Began n w k a s m σ → AfterBegin s r levels calls turn → Ran n σ calls ν → Turned parts (run_on (part.Open ∷ parts) 0 m levels) turn ν
    nests sort.Opened r σ calls turn ν is nested inside (none_left, f) ran =
        leads parts _ turn (GoesOn 0 (none ∷ levels)) σ ν calls none_left f ran (record { m = next m move.Open; inside = inside; length_is = ap suc length_is; alone_is = refl; nested = nested })
    nests sort.Refused r σ calls turn ν is nested inside h ran = stops parts _ r levels m σ calls turn ν (not_atomic r sort.Refused is (λ e. cc)) length_is inside.stands h ran
    nests s r σ calls turn ν is nested not_so h ran = absurd not_so

  joins : (parts : List Part) (v : Catalog) (vs : List Catalog) (r : Reply) (levels : List PlainTerms) (m : Mid) (σ : State) (calls : List Call) (turn : Turn) (ν : State) → length levels ≡ suc (suc (length vs)) → m.saved ≡ v ∷ vs
      → is_nested (length vs) parts ≡ true → Inside n w k a (next m move.Close) σ → Joins r levels calls turn → Ran n σ calls ν → Turned parts (alone.closed (run_on parts) m levels) turn ν
  joins parts v vs r [] m σ calls turn ν e f nested inside h ran = absurd (omega (arith, e))
  joins parts v vs r (ts ∷ []) m σ calls turn ν e f nested inside h ran = absurd (omega (arith, e))
  joins parts v vs r (ts ∷ us ∷ outer) m σ calls turn ν e f nested inside h ran =
      puts parts _ 0 (reply.AtomicTerms ts) (us ∷ outer) σ calls turn ν (record {
        m = next m move.Close;
        inside = inside;
        length_is = omega (arith, e, ap (λ (ws : List Catalog). length (without_innermost ws)) f);
        alone_is = refl;
        nested = subst (λ (ws : List Catalog). is_nested (length (without_innermost ws)) parts ≡ true) (sym f) nested;
      }) h ran

  module _ (parts : List Part) (levels : List PlainTerms) (m : Mid) (length_is : length levels ≡ suc (length m.saved)) where
    inner : (ws : List Catalog) (s : Sort) (r : Reply) (σ : State) (calls : List Call) (turn : Turn) (ν : State) → m.saved ≡ ws → sort_of r ≡ s → is_nested (length ws) (part.Close ∷ parts) ≡ true
        → Closed n w k a s ws m σ → AfterInner s r levels calls turn → Ran n σ calls ν → Turned parts (run_on (part.Close ∷ parts) 0 m levels) turn ν
    inner [] s r σ calls turn ν e is nested closes h ran = cc
    inner (v ∷ vs) sort.Joined r σ calls turn ν e is nested inside h ran = joins parts v vs r levels m σ calls turn ν (length_is ∙ ap (λ (ws : List Catalog). suc (length ws)) e) e nested inside h ran
    inner (v ∷ vs) sort.Refused r σ calls turn ν e is nested inside h ran = stops parts _ r levels m σ calls turn ν (not_atomic r sort.Refused is (λ e. cc)) length_is inside.stands h ran
    inner (v ∷ vs) s r σ calls turn ν e is nested not_so h ran = absurd not_so

    handed : (p : Part) (σ : State) (calls : List Call) (turn : Turn) (ν : State) → Inside n w k a m σ → is_nested (length m.saved) (p ∷ parts) ≡ true → HandsIn p levels calls turn → Ran n σ calls ν → Turned parts (run_on (p ∷ parts) 0 m levels) turn ν
    handed (part.Do o) σ calls turn ν i nested (x, rest, e, h) ran =
        let on = subst (λ (cs : List Call). Ran n σ cs ν) e ran in
        asked parts levels m length_is o (sort_of x) x on.0 rest turn ν refl nested (did n w k a σ on.0 m o x i on.1) h on.2
    handed (part.Abort r) σ calls turn ν i nested (x, rest, e, h) ran =
        let on = subst (λ (cs : List Call). Ran n σ cs ν) e ran in
        undone parts levels m length_is r (sort_of x) x on.0 rest turn ν refl nested (aborted n w k a σ on.0 m r x i.stands on.1) h on.2
    handed part.Open σ calls turn ν i nested (x, rest, e, h) ran =
        let on = subst (λ (cs : List Call). Ran n σ cs ν) e ran in
        nests parts levels m length_is (sort_of x) x on.0 rest turn ν refl nested (begun n w k a σ on.0 m x i on.1) h on.2
    handed part.Close σ calls turn ν i nested (x, rest, e, h) ran =
        let on = subst (λ (cs : List Call). Ran n σ cs ν) e ran in
        inner m.saved (sort_of x) x on.0 rest turn ν refl refl nested (closed n w k a σ on.0 m x i on.1) h on.2

    served : (p : Part) (σ : State) (calls : List Call) (turn : Turn) (ν : State) → Inside n w k a m σ → is_nested (length m.saved) (p ∷ parts) ≡ true → Serves p levels calls turn → Ran n σ calls ν → Turned parts (run_on (p ∷ parts) 0 m levels) turn ν
    served p σ calls turn ν i nested (inl h) ran = handed p σ calls turn ν i nested h ran
    served p σ calls turn ν i nested (inr h) ran = stops parts _ reply.NoMemory levels m σ calls turn ν refl length_is i.stands h.1 ran

  -- ---- attempts

  -- the transaction is committed as all parts come to alone, and the reply says so
  pub record IsDone (all : Option alone.Commit) (r : Reply) (μ : State) : Type 0 where
    pub comes : alone.Commit
    pub said : r ≡ reply.AtomicTerms comes.replies
    pub alone_is : all ≡ Some comes
    pub left : Committed n w k a comes.tables μ

  abbrev pub Replied : Option alone.Commit → Reply → State → Type 0
  Replied all r μ = IsDone all r μ ⊎ (is_atomic r ≡ false) × Outside n w k a μ

  abbrev Attempted : Option alone.Commit → Option Reply → State → Type 0
  Attempted all (Some r) μ = Replied all r μ
  Attempted all None μ = Inside n w k a (start w a) μ

  committed : (s : Sort) (r : Reply) (levels : List PlainTerms) (m : Mid) (all : Option alone.Commit) (σ : State) (calls : List Call) (last : Reply) (ν : State) → length levels ≡ 1 → m.saved ≡ [] → sort_of r ≡ s → all ≡ run_on [] 0 m levels
      → Closed n w k a s [] m σ → AfterCommit s r levels calls last → Ran n σ calls ν → Replied all last ν
  committed sort.Committed r levels m all σ calls last ν e f is g closes (none_left, same) ran =
      inl (record { comes = record { replies = innermost levels; tables = m.now }; said = same; alone_is = g; left = none_called (Committed n w k a m.now) σ ν calls none_left ran closes })
  committed sort.Refused r levels m all σ calls last ν e f is g inside h ran =
      let over = all_end levels m σ r calls last ν (e ∙ ap (λ (ws : List Catalog). suc (length ws)) (sym f)) inside.stands h ran in
      inr (subst (λ (x : Reply). is_atomic x ≡ false) (sym over.0) (not_atomic r sort.Refused is (λ e. cc)), over.1)
  committed s r levels m all σ calls last ν e f is g not_so h ran = absurd not_so

  none_open : (ws : List Catalog) (skipped : ℕ) → is_nested (around skipped ws) [] ≡ true → (ws ≡ []) × (skipped ≡ 0)
  none_open [] zero e = (refl, refl)
  none_open (v ∷ vs) zero e = cc
  none_open ws (suc j) e = cc

  attempted : (parts : List Part) (skipped : ℕ) (levels : List PlainTerms) (all : Option alone.Commit) (σ : State) (calls : List Call) (ending : Option Reply) (ν : State)
      → Stands parts all skipped levels σ → IsAttempt parts skipped levels calls ending → Ran n σ calls ν → Attempted all ending ν
  attempted [] skipped levels all σ calls ending ν s (last, (x, rest, e, h), is) ran =
      let on = subst (λ (cs : List Call). Ran n σ cs ν) e ran in
      let none_left = none_open s.m.saved skipped s.nested in
      subst (λ (o : Option Reply). Attempted all o ν) (sym is)
      (committed (sort_of x) x levels s.m all on.0 rest last ν (s.length_is ∙ ap (λ (ws : List Catalog). suc (length ws)) none_left.0) none_left.0 refl s.alone_is
      (subst (λ (ws : List Catalog). Closed n w k a (sort_of x) ws s.m on.0) none_left.0 (closed n w k a σ on.0 s.m x s.inside on.1)) h on.2)
  attempted (p ∷ parts) zero levels all σ calls ending ν s (now, rest, turn, e, h, goes) ran =
      by_turn turn (λ j later μ t g. attempted parts j later all μ rest ending ν t g) parted.0
      (subst (λ (o : Option alone.Commit). Turned parts o turn parted.0) (sym s.alone_is) (served parts levels s.m s.length_is p σ now turn parted.0 s.inside s.nested h parted.1)) goes parted.2
    where
      parted : (μ : State) × Ran n σ now μ × Ran n μ rest ν
      parted = ran_split n σ ν now rest (subst (λ (cs : List Call). Ran n σ cs ν) e ran)

      by_turn : (turn : Turn) → ((j : ℕ) (later : List PlainTerms) (μ : State) → Stands parts all j later μ → IsAttempt parts j later rest ending → Ran n μ rest ν → Attempted all ending ν)
          → (μ : State) → Turned parts all turn μ → Goes (IsAttempt parts) turn rest ending → Ran n μ rest ν → Attempted all ending ν
      by_turn (GoesOn j later) then_on μ t g ran = then_on j later μ t g ran
      by_turn (IsOver r) then_on μ t (none_left, is) ran = subst (λ (o : Option Reply). Attempted all o ν) (sym is) (inr (t.0, none_called (Outside n w k a) μ ν rest none_left ran t.1))
      by_turn Restarts then_on μ t (none_left, is) ran = subst (λ (o : Option Reply). Attempted all o ν) (sym is) (none_called (Inside n w k a (start w a)) μ ν rest none_left ran t)
  attempted (p ∷ parts) (suc j) levels all σ calls ending ν s h ran =
      attempted parts (passed p j) levels all σ calls ending ν (record { m = s.m; inside = s.inside; length_is = s.length_is; alone_is = s.alone_is; nested = still_nested p j s.nested }) h ran
    where
      still_nested : (p : Part) (j : ℕ) → is_nested (around (suc j) s.m.saved) (p ∷ parts) ≡ true → is_nested (around (passed p j) s.m.saved) parts ≡ true
      still_nested (part.Do o) j e = e
      still_nested (part.Abort r) j e = e
      still_nested part.Open j e = e
      still_nested part.Close j e = e

  -- ---- the whole

  module _ (parts : List Part) (nested : is_nested 0 parts ≡ true) where
    abbrev Comes : Reply → State → Type 0
    Comes r μ = Replied (run_alone parts w a) r μ

    -- an attempt, or level 1 is ended since memory for the parts was refused
    tried_once : (σ : State) (calls : List Call) (ending : Option Reply) (ν : State) → Inside n w k a (start w a) σ → IsTried parts calls ending → Ran n σ calls ν → Attempted (run_alone parts w a) ending ν
    tried_once σ calls ending ν i (inl h) ran = attempted parts 0 (none ∷ []) (run_alone parts w a) σ calls ending ν (record { m = start w a; inside = i; length_is = refl; alone_is = refl; nested = nested }) h ran
    tried_once σ calls ending ν i (inr (last, h, is)) ran = subst (λ (o : Option Reply). Attempted (run_alone parts w a) o ν) (sym is) (refused (ends [] (start w a) σ reply.NoMemory calls last ν refl i.stands h ran))
      where
        refused : Over reply.NoMemory last ν → Comes last ν
        refused over = inr (subst (λ (x : Reply). is_atomic x ≡ false) (sym over.0) refl, over.1)

    tried : (Anew : List Call → Reply → Type 0) (σ : State) (calls : List Call) (last : Reply) (ν : State) → Inside n w k a (start w a) σ
        → ((μ : State) (rest : List Call) → Inside n w k a (start w a) μ → Anew rest last → Ran n μ rest ν → Comes last ν) → Tries parts Anew calls last → Ran n σ calls ν → Comes last ν
    tried Anew σ calls last ν i anew (first, rest, ending, e, h, more) ran =
        by_ending ending (tried_once σ first ending parted.0 i h parted.1) more
      where
        parted : (μ : State) × Ran n σ first μ × Ran n μ rest ν
        parted = ran_split n σ ν first rest (subst (λ (cs : List Call). Ran n σ cs ν) e ran)

        by_ending : (o : Option Reply) → Attempted (run_alone parts w a) o parted.0 → Follows Anew o rest last → Comes last ν
        by_ending (Some r) h (none_left, is) = subst (λ (x : Reply). Comes x ν) (sym is) (none_called (Comes r) parted.0 ν rest none_left parted.2 h)
        by_ending None h f = anew parted.0 rest h f parted.2

    tries : (retries : ℕ) (σ : State) (calls : List Call) (last : Reply) (ν : State) → Inside n w k a (start w a) σ → Runs parts retries calls last → Ran n σ calls ν → Comes last ν
    tries zero σ calls last ν i h ran = tried _ σ calls last ν i (λ μ rest j f ran. gives_up (ends [] (start w a) μ reply.NoMore rest last ν refl j.stands f ran)) h ran
      where
        gives_up : Over reply.NoMore last ν → Comes last ν
        gives_up over = inr (subst (λ (x : Reply). is_atomic x ≡ false) (sym over.0) refl, over.1)
    tries (suc j) σ calls last ν i h ran = tried _ σ calls last ν i (λ μ rest i f ran. tries j μ f.0 last ν i f.2 (subst (λ (cs : List Call). Ran n μ cs ν) f.1 ran)) h ran

    opens : (s : Sort) (x : Reply) (retries : ℕ) (σ : State) (calls : List Call) (last : Reply) (ν : State) → Opened n w k a s x σ → Opens s x parts retries calls last → Ran n σ calls ν → Comes last ν
    opens sort.Opened x retries σ calls last ν i h ran = tries retries σ calls last ν i h ran
    opens s x retries σ calls last ν (plain, o) (none_left, is) ran = subst (λ (y : Reply). Comes y ν) (sym is) (inr (plain, none_called (Outside n w k a) σ ν calls none_left ran o))

    runs : (retries : ℕ) (σ : State) (calls : List Call) (last : Reply) (ν : State) → Outside n w k a σ → σ.next_age ≡ a → IsRun parts retries calls last → Ran n σ calls ν → Comes last ν
    runs retries σ calls last ν o is (inl (x, rest, e, h)) ran =
        let on = subst (λ (cs : List Call). Ran n σ cs ν) e ran in
        opens (sort_of x) x retries on.0 rest last ν (opened n w k a σ on.0 parts retries x o is on.1) h on.2
    runs retries σ calls last ν o is (inr (none_left, same)) ran = subst (λ (y : Reply). Comes y ν) (sym same) (inr (refl, none_called (Outside n w k a) σ ν calls none_left ran o))

-- ---- one that is driven on a session with no transaction

-- what is answered {atomic, Replies} is committed once, as its parts come to alone; all else leaves the tables
pub record IsCommitted (σ : State) (parts : List Part) (r : Reply) (μ : State) : Type 0 where
  pub replies : PlainTerms
  pub said : r ≡ reply.AtomicTerms replies
  pub alone_is : run_alone parts σ.tables σ.next_age ≡ Some (record { replies = replies; tables = μ.tables })
  pub once : μ.commits ≡ suc σ.commits

pub record IsUndone (σ : State) (r : Reply) (μ : State) : Type 0 where
  pub plain : is_atomic r ≡ false
  pub tables : μ.tables ≡ σ.tables
  pub commits : μ.commits ≡ σ.commits

pub record Leaves (σ : State) (n : ℕ) (parts : List Part) (r : Reply) (μ : State) : Type 0 where
  pub none_open : transaction_at μ n ≡ None
  pub none_waits : is_waiting σ n ≡ false → is_waiting μ n ≡ false
  pub ends : IsCommitted σ parts r μ ⊎ IsUndone σ r μ

unchanged : (σ μ : State) (n : ℕ) (parts : List Part) (r : Reply) → transaction_at σ n ≡ None → is_atomic r ≡ false → μ ≡ σ → Leaves σ n parts r μ
unchanged σ μ n parts r none_open plain same = subst (Leaves σ n parts r) (sym same) (record { none_open = none_open; none_waits = λ free. free; ends = inr (record { plain = plain; tables = refl; commits = refl }) })

-- a one-shot of a session whose request waits is refused
record IsRefused (σ : State) (x : Reply) (μ : State) : Type 0 where
  pub plain : is_atomic x ≡ false
  pub not_opened : sort_of x ≡ sort.Opened → ⊥
  pub same : μ ≡ σ

abbrev RefusedSo : State → Outcome → Type 0
RefusedSo σ o = IsRefused σ o.reply o.state

waits : (σ : State) (over : List ℕ) (n : ℕ) (parts : List Part) (retries : ℕ) → is_waiting σ n ≡ true → RefusedSo σ (outcome σ over n (DoCommand (command.OneShot parts retries)))
unfolding outcome
waits σ over n parts retries e = cases (session_at σ.sessions n) refl
  where
    cases : (x : Option Session) → session_at σ.sessions n ≡ x → RefusedSo σ (step_of σ over n (DoCommand (command.OneShot parts retries)) x)
    cases None f = record { plain = refl; not_opened = λ g. cc; same = refl }
    cases (Some s) f = subst (λ (b : Bool). RefusedSo σ (command_if σ over s (command.OneShot parts retries) (b && true))) (sym (ap (is_waiting σ) (found σ.sessions s n f) ∙ e)) (record { plain = refl; not_opened = λ g. cc; same = refl })

refused : (σ μ : State) (n : ℕ) (parts : List Part) (retries : ℕ) (x : Reply) → is_waiting σ n ≡ true → StepMadeOrRefused σ n (DoCommand (command.OneShot parts retries)) x μ → IsRefused σ x μ
refused σ μ n parts retries x e (inl made) = subst (RefusedSo σ) made.made (waits σ made.over n parts retries e)
refused σ μ n parts retries x e (inr (takes, none_said, same)) = subst (λ (y : Reply). IsRefused σ y μ) (sym none_said) (record { plain = refl; not_opened = λ g. cc; same = same })

ran_none : (n : ℕ) (σ ν : State) (calls : List Call) → calls ≡ [] → Ran n σ calls ν → ν ≡ σ
ran_none n σ ν calls e ran = subst (λ (cs : List Call). Ran n σ cs ν) e ran

refuses : (σ μ : State) (n : ℕ) (parts : List Part) (retries : ℕ) (calls : List Call) (r : Reply) → transaction_at σ n ≡ None → is_waiting σ n ≡ true → IsRun parts retries calls r → Ran n σ calls μ → Leaves σ n parts r μ
refuses σ μ n parts retries calls r none_open busy (inl (x, rest, e, h)) ran = first_step (subst (λ (cs : List Call). Ran n σ cs μ) e ran)
  where
    by_sort : (s : Sort) (ρ : State) → sort_of x ≡ s → Opens s x parts retries rest r → IsRefused σ x ρ → Ran n ρ rest μ → Leaves σ n parts r μ
    by_sort sort.Opened ρ is h k ran = absurd (k.not_opened is)
    by_sort s ρ is (none_left, f) k ran = unchanged σ μ n parts r none_open (subst (λ (y : Reply). is_atomic y ≡ false) (sym f) k.plain) (ran_none n ρ μ rest none_left ran ∙ k.same)

    first_step : Ran n σ (Asked (command.OneShot parts retries) x ∷ rest) μ → Leaves σ n parts r μ
    first_step (ρ, one, ran) = by_sort (sort_of x) ρ refl h (refused σ ρ n parts retries x busy one) ran
refuses σ μ n parts retries calls r none_open busy (inr (none_left, is)) ran = unchanged σ μ n parts r none_open (subst (λ (y : Reply). is_atomic y ≡ false) (sym is) refl) (ran_none n σ μ calls none_left ran)

leaves_of : (σ μ : State) (n : ℕ) (parts : List Part) (r : Reply) → Replied n σ.tables σ.commits σ.next_age (run_alone parts σ.tables σ.next_age) r μ → Leaves σ n parts r μ
leaves_of σ μ n parts r (inl done) = record {
  none_open = done.left.none;
  none_waits = λ free. done.left.free;
  ends = inl (record {
    replies = done.comes.replies;
    said = done.said;
    alone_is = done.alone_is ∙ ap (λ (v : Catalog). Some (record { replies = done.comes.replies; tables = v })) (sym done.left.tables);
    once = done.left.commits;
  });
}
leaves_of σ μ n parts r (inr (plain, o)) = record { none_open = o.none; none_waits = λ free. o.free; ends = inr (record { plain = plain; tables = o.tables; commits = o.commits }) }

leaves : (σ μ : State) (n : ℕ) (parts : List Part) (retries : ℕ) (r : Reply) → is_nested 0 parts ≡ true → transaction_at σ n ≡ None → IsDriven σ n (command.OneShot parts retries) r μ → Leaves σ n parts r μ
leaves σ μ n parts retries r nested none_open d = by_wait (is_waiting σ n) refl
  where
    by_wait : (b : Bool) → is_waiting σ n ≡ b → Leaves σ n parts r μ
    by_wait true e = refuses σ μ n parts retries d.calls r none_open e d.one_shot d.ran
    by_wait false e = leaves_of σ μ n parts r
        (runs n σ.tables σ.commits σ.next_age parts nested retries σ d.calls r μ (record { none = none_open; free = e; tables = refl; commits = refl }) refl d.one_shot d.ran)

-- ---- what the law says

formed : (a b c : Bool) → (a && (b && c)) ≡ true → b ≡ true
formed true true c e = refl
formed true false c e = cc
formed false b c e = cc

driven : (σ μ : State) (n : ℕ) (c : Command) (r : Reply) → is_command c ≡ true → transaction_at σ n ≡ None → IsDriven σ n c r μ → (parts : List Part) × Leaves σ n parts r μ
driven σ μ n (command.OneShot parts retries) r known none_open d = (parts, leaves σ μ n parts retries r (formed _ _ _ known) none_open d)
driven σ μ n c r known none_open d = absurd d.one_shot

-- who has no transaction has no request where each request is of an open one
none_requested : (f : ℕ → Option Transaction) (qs : List Queued) (n : ℕ) → f n ≡ None → OwnedBy f qs → is_some (request_in qs n) ≡ false
none_requested f [] n e h = refl
none_requested f (q ∷ qs) n e h = by (q.session == n) refl (none_requested f qs n e h.1)
  where
    by : (b : Bool) → (q.session == n) ≡ b → is_some (request_in qs n) ≡ false → is_some (if b then Some q else request_in qs n) ≡ false
    by true g ih = absurd (subst (λ (o : Option Transaction). HasAge o q.age) (ap f (eq_true q.session n g) ∙ e) h.0)
    by false g ih = ih

plain_is : (r : Reply) → ((ts : PlainTerms) → r ≢ reply.AtomicTerms ts) → (σ μ : State) (parts : List Part) → IsCommitted σ parts r μ ⊎ IsUndone σ r μ → IsUndone σ r μ
plain_is r other σ μ parts (inl c) = absurd (other c.replies c.said)
plain_is r other σ μ parts (inr u) = u

atomic_is : (ts : PlainTerms) (σ μ : State) (parts : List Part) → IsCommitted σ parts (reply.AtomicTerms ts) μ ⊎ IsUndone σ (reply.AtomicTerms ts) μ → IsCommitted σ parts (reply.AtomicTerms ts) μ
atomic_is ts σ μ parts (inl c) = c
atomic_is ts σ μ parts (inr u) = cc (u.plain)

pub none_left_open : (σ μ : State) (n : ℕ) (c : Command) (r : Reply) → is_command c ≡ true → transaction_at σ n ≡ None → IsDriven σ n c r μ → transaction_at μ n ≡ None
none_left_open σ μ n c r known none_open d = (driven σ μ n c r known none_open d).1.none_open

pub none_left_queued : (σ μ : State) (n : ℕ) (c : Command) (r : Reply) → is_command c ≡ true → IsRising σ → transaction_at σ n ≡ None → IsDriven σ n c r μ → is_waiting μ n ≡ false
none_left_queued σ μ n c r known rising none_open d = (driven σ μ n c r known none_open d).1.none_waits (none_requested (transaction_at σ) σ.queue n none_open rising.owners)

pub committed_once : (σ μ : State) (n : ℕ) (c : Command) (ts : PlainTerms) → is_command c ≡ true → transaction_at σ n ≡ None → IsDriven σ n c (reply.AtomicTerms ts) μ → μ.commits ≡ suc σ.commits
committed_once σ μ n c ts known none_open d = let l = driven σ μ n c (reply.AtomicTerms ts) known none_open d in (atomic_is ts σ μ l.0 l.1.ends).once

pub else_undone : (σ μ : State) (n : ℕ) (c : Command) (r : Reply) → is_command c ≡ true → transaction_at σ n ≡ None → IsDriven σ n c r μ → ((ts : PlainTerms) → r ≢ reply.AtomicTerms ts) → (μ.tables ≡ σ.tables) × (μ.commits ≡ σ.commits)
else_undone σ μ n c r known none_open d other = let l = driven σ μ n c r known none_open d in let u = plain_is r other σ μ l.0 l.1.ends in (u.tables, u.commits)

pub comes_as_alone : (σ μ : State) (n : ℕ) (parts : List Part) (retries : ℕ) (ts : PlainTerms) → is_command (command.OneShot parts retries) ≡ true → transaction_at σ n ≡ None → IsDriven σ n (command.OneShot parts retries) (reply.AtomicTerms ts) μ
    → run_alone parts σ.tables σ.next_age ≡ Some (record { replies = ts; tables = μ.tables })
comes_as_alone σ μ n parts retries ts known none_open d =
    let c = atomic_is ts σ μ parts (leaves σ μ n parts retries (reply.AtomicTerms ts) (formed _ _ _ known) none_open d).ends in
    c.alone_is ∙ ap (λ (us : PlainTerms). Some (record { replies = us; tables = μ.tables })) (same_terms c.replies c.said)
  where
    same_terms : (us : PlainTerms) → reply.AtomicTerms ts ≡ reply.AtomicTerms us → us ≡ ts
    same_terms us e = cc

pub enters_once : (σ μ : State) (n : ℕ) (c : Command) (ts : PlainTerms) → is_command c ≡ true → IsSound σ → transaction_at σ n ≡ None → (d : IsDriven σ n c (reply.AtomicTerms ts) μ) → IsOneCommit σ n (of_calls n σ d.calls μ d.ran).log μ
enters_once σ μ n c ts known sound none_open d = logs_one n σ μ d.calls sound (all_handed c d.calls (reply.AtomicTerms ts) d.one_shot) d.ran (committed_once σ μ n c ts known none_open d)

pub else_enters_none : (σ μ : State) (n : ℕ) (c : Command) (r : Reply) → is_command c ≡ true → IsSound σ → transaction_at σ n ≡ None → (d : IsDriven σ n c r μ) → ((ts : PlainTerms) → r ≢ reply.AtomicTerms ts) → (of_calls n σ d.calls μ d.ran).log ≡ []
else_enters_none σ μ n c r known sound none_open d other = logs_none n σ μ d.calls sound (all_handed c d.calls r d.one_shot) d.ran (else_undone σ μ n c r known none_open d other).1
