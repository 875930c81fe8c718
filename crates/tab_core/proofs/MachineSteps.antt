-- What takes memory is answered otherwise than what takes none.
use Rattle.std.proofs.Common.{◌≡◌, ℕ, List, [], Bool, true, false, ◌&&◌, ◌||◌, not, refl, sym, ap, ◌∙◌, map, Option, Some, None, suc, length}
use Rattle.std.specs.Prelude.{◌==◌, is_some, nat_lt, if◌then◌else◌, option_map, IfSome, IsOk, Result, Err}
use Rattle.tab_term.specs.View.{term}
use Rattle.tab_model.specs.declared.data.Command.TheVariants as command
use Rattle.tab_model.specs.declared.data.InfoItem.{InfoItem}
use Rattle.tab_model.specs.declared.data.InfoItem.TheVariants as item
use Rattle.tab_model.specs.declared.data.Limits.{Limits}
use Rattle.tab_model.specs.declared.data.Move.TheVariants.{Do}
use Rattle.tab_model.specs.declared.data.Operation.{Operation}
use Rattle.tab_model.specs.declared.data.Reply.{Reply}
use Rattle.tab_model.specs.declared.data.Reply.TheVariants as reply
use Rattle.tab_model.specs.declared.data.Schema.{Schema}
use Rattle.tab_model.specs.declared.data.Schema.TheVariants.{Create, Remove, AddIndex, DelIndex}
use Rattle.tab_model.specs.Ages.{Answer, Granted, Wait, Die, can_retry, decide}
use Rattle.tab_model.specs.Definitions.{Parsed, Good, Bad, parse_options, is_indexed, position}
use Rattle.tab_model.specs.Locks.{needs}
use Rattle.tab_model.specs.declared.ask.Ask.TheVariants.{Join, Retry, Do as DoCommand}
use Rattle.tab_model.specs.Outcome.{Ask, Outcome, begin, commit, by_lock_answer, has_room, schema, table_info}
use Rattle.tab_model.proofs.StepCases.{commit_at, open_child, try_again, schema_if}
use Rattle.tab_model.specs.Refusals.{Changes, effect_of_reply}
use Rattle.tab_model.specs.Schemas.{table_of_schema, is_some_position, bad_parse, create_refusal, remove_refusal, add_refusal, del_refusal, schema_refusal}
use Rattle.tab_model.specs.State as plain
use Rattle.tab_model.specs.State.{Outbox, Transaction, Session, State, ages_of, count_moves, is_busy, is_waiting, mid_of, request_in, transaction_at}
use Rattle.tab_model.specs.Catalogs.{Table, find}
use Rattle.tab_model.proofs.RefusalLaws.{move_answers}
use Rattle.tab_core.specs.declared.queue.Request as request
use Rattle.tab_core.specs.declared.transaction.Transaction as kept
use Rattle.tab_core.specs.Kept.{IsKept}
use Rattle.tab_core.specs.Steps.{is_commit, is_told_for_none, tells_for_none}
use Rattle.tab_core.specs.Works.{has_level}
use Rattle.tab_core.proofs.Answering as answering
use Rattle.tab_core.proofs.Keeping as keep
use Rattle.tab_core.proofs.Keeping.{the_session}
use Rattle.tab_core.proofs.LevelEnds as ending
use Rattle.tab_core.proofs.OperatingLemmas as operating
use Rattle.tab_subs.specs.Subscribers.{IsHeldAt, at, nobody}
use Rattle.tab_core.specs.Joined.{Subscriber}
use Rattle.tab_core.specs.Parts.{Parts, queued_of, session_of, state_of, transaction_of}

pub both_ways : {P : Type 0} (a b : Bool) → (a || b) ≡ true → (a ≡ true → P) → (b ≡ true → P) → P
both_ways true b h f g = f refl
both_ways false b h f g = g h

pub differ : (b : Bool) → b ≡ true → b ≡ false → ⊥
differ true h g = cc
differ false h g = cc

module _ (σ : State) (n : ℕ) where
  -- the answer to a move of an open transaction
  answer_takes : (a : Ask) (r : Reply) → is_some (transaction_at σ n) ≡ true → is_commit a ≡ false → effect_of_reply r ≡ Changes → tells_for_none (is_some (transaction_at σ n)) a r ≡ false
  answer_takes a reply.BadTerm inside other h = refl
  answer_takes a reply.BadCommand inside other h = refl
  answer_takes a reply.NoTransaction inside other h = cc
  answer_takes a reply.WaitingNow inside other h = cc
  answer_takes a reply.InTransaction inside other h = cc
  answer_takes a reply.NotWaiting inside other h = cc
  answer_takes a reply.NoMemory inside other h = refl
  answer_takes a (reply.SystemLimit l) inside other h = cc
  answer_takes a reply.BadSession inside other h = cc
  answer_takes a (reply.NoTable t) inside other h = refl
  answer_takes a (reply.BadType t x) inside other h = refl
  answer_takes a (reply.NoIndex t x) inside other h = refl
  answer_takes a (reply.UserAbort x) inside other h = refl
  answer_takes a (reply.AlreadyExists t) inside other h = cc
  answer_takes a (reply.Locked t) inside other h = cc
  answer_takes a (reply.BadDefinition t x) inside other h = cc
  answer_takes a (reply.UnknownTable t) inside other h = cc
  answer_takes a (reply.AlreadySubscribed t) inside other h = cc
  answer_takes a (reply.NotSubscribed t) inside other h = cc
  answer_takes a reply.OutboxFull inside other h = cc
  answer_takes a reply.OverflowUntold inside other h = cc
  answer_takes a reply.Waiting inside other h = cc
  answer_takes a reply.Restart inside other h = cc
  answer_takes a reply.Done inside other h = refl
  answer_takes a (reply.Tid age) inside other h = ap not inside
  answer_takes a (reply.Atomic c) inside other h = refl
  answer_takes a reply.AtomicOk inside other h = other
  answer_takes a (reply.AtomicTerms ts) inside other h = refl
  answer_takes a reply.NoMore inside other h = refl
  answer_takes a reply.NoWait inside other h = refl
  answer_takes a (reply.Found ts) inside other h = refl
  answer_takes a reply.SubscribedHere inside other h = refl
  answer_takes a (reply.TableInfo i) inside other h = refl
  answer_takes a (reply.Taken x) inside other h = refl
  answer_takes a (reply.Overflow c) inside other h = refl
  answer_takes a reply.Empty inside other h = refl

  -- an operation whose lock is decided
  pub decided_takes : (s : Session) (t : Transaction) (o : Operation) (b : Answer) → transaction_at σ n ≡ Some t → tells_for_none (is_some (transaction_at σ n)) (DoCommand (command.Do o)) (by_lock_answer σ s t o b).reply ≡ false
  decided_takes s t o Granted e = answer_takes (DoCommand (command.Do o)) _ (ap is_some e) refl (move_answers (mid_of σ t) (Do o) reply.Done refl)
  decided_takes s t o Wait e = refl
  decided_takes s t o Die e = refl

  -- a retry that is granted
  pub retried_takes : (s : Session) (t : Transaction) (o : Operation) → transaction_at σ n ≡ Some t → tells_for_none (is_some (transaction_at σ n)) Retry (try_again σ s t o true).reply ≡ false
  retried_takes s t o e = answer_takes Retry _ (ap is_some e) refl (move_answers (mid_of σ t) (Do o) reply.Done refl)

  -- a child's begin that the limits let through
  pub nested_takes : (s : Session) (t : Transaction) (a b : Bool) → (a && b) ≡ true → transaction_at σ n ≡ Some t → tells_for_none (is_some (transaction_at σ n)) (DoCommand command.Begin) (open_child σ s t a b).reply ≡ false
  nested_takes s t true true h e = answer_takes (DoCommand command.Begin) (reply.Tid (mid_of σ t).age) (ap is_some e) refl refl
  nested_takes s t true false h e = cc
  nested_takes s t false b h e = cc

  -- a refusal that has a name
  abbrev NamesIt : Ask → Option Reply → Type 0
  NamesIt a None = Unit {0}
  NamesIt a (Some r) = tells_for_none (is_some (transaction_at σ n)) a r ≡ false

  parsed_names : (a : Ask) (t : List ℕ) (p : Parsed) → NamesIt a (bad_parse t p)
  parsed_names a t (Good d) = tt
  parsed_names a t (Bad x) = refl

  schema_names : (a : Ask) (c : Schema) → NamesIt a (schema_refusal σ.tables c)
  schema_names a (Create t os) = cases (find σ.tables t)
    where
      cases : (x : Option Table) → NamesIt a (create_refusal t os x)
      cases (Some x) = refl
      cases None = parsed_names a t (parse_options t os)
  schema_names a (Remove t) = cases (find σ.tables t)
    where
      cases : (x : Option Table) → NamesIt a (remove_refusal t x)
      cases (Some x) = tt
      cases None = refl
  schema_names a (AddIndex t x) = cases (find σ.tables t)
    where
      either_way : (b : Bool) (r : Reply) → tells_for_none (is_some (transaction_at σ n)) a r ≡ false → NamesIt a (if b then Some r else None)
      either_way true r h = h
      either_way false r h = tt

      cases : (y : Option Table) → NamesIt a (add_refusal t x y)
      cases None = refl
      cases (Some y) = either_way (not (is_some_position (position y.def (term x))) || is_indexed y.def (position y.def (term x))) _ refl
  schema_names a (DelIndex t x) = cases (find σ.tables t)
    where
      either_way : (b : Bool) → NamesIt a (if b then None else Some (reply.NoIndex t x))
      either_way true = tt
      either_way false = refl

      cases : (y : Option Table) → NamesIt a (del_refusal t x y)
      cases None = refl
      cases (Some y) = either_way (is_indexed y.def (position y.def (term x)))

  if_takes : (over : List ℕ) (c : Schema) (r : Option Reply) (busy room : Bool) → NamesIt (DoCommand (command.Schema c)) r → tells_for_none (is_some (transaction_at σ n)) (DoCommand (command.Schema c)) (schema_if σ over c r busy room).reply ≡ false
  if_takes over c (Some r) busy room h = h
  if_takes over c None true room h = refl
  if_takes over c None false false h = refl
  if_takes over c None false true h = refl

  -- a schema command outside a transaction
  pub schema_takes : (over : List ℕ) (c : Schema) (busy room : Bool) → tells_for_none (is_some (transaction_at σ n)) (DoCommand (command.Schema c)) (schema_if σ over c (schema_refusal σ.tables c) busy room).reply ≡ false
  schema_takes over c busy room = if_takes over c (schema_refusal σ.tables c) busy room (schema_names (DoCommand (command.Schema c)) c)

  pub info_takes : (t : List ℕ) (i : InfoItem) (x : Option Table) → tells_for_none (is_some (transaction_at σ n)) (DoCommand (command.TableInfo t i)) (table_info t i x) ≡ false
  info_takes t i None = refl
  info_takes t item.Kind (Some x) = refl
  info_takes t item.Attributes (Some x) = refl
  info_takes t item.Index (Some x) = refl
  info_takes t item.Size (Some x) = refl

-- ---- at a session's place

-- a begin that was refused memory, in a transaction that has room for a child
pub has_room_for : (ls : Limits) (t : kept.Transaction) (o : Option kept.Transaction) {E : Type 0} (r : Result Reply E) (e : E) → o ≡ Some t → IfSome o (λ u. has_level ls u ≡ false → IsOk r) → r ≡ Err e → has_level ls t ≡ true
has_room_for ls t o r e open_t free was = by (has_level ls t) refl (keep.if_some (λ u. has_level ls u ≡ false → IsOk r) o t open_t free)
  where
    by : (b : Bool) → has_level ls t ≡ b → (has_level ls t ≡ false → IsOk r) → b ≡ true
    by true h f = refl
    by false h f = absurd (answering.not_refused r e was (f h))

module _ (m : Parts) (n i : ℕ) (k : IsKept m) (there : IsHeldAt m.sessions n i) where
  abbrev s : Subscriber
  s = the_session m n i

  abbrev σ : State
  σ = state_of m

  pub closed_at : s.transaction ≡ None → transaction_at σ n ≡ None
  closed_at closed = ap plain.transaction_in (keep.here m n i k there) ∙ ap (option_map transaction_of) closed

  pub open_at : (t : kept.Transaction) → s.transaction ≡ Some t → transaction_at σ n ≡ None → ⊥
  open_at t open_t none = let no : None ≡ Some (transaction_of t) = sym none ∙ keep.mine m n i k there t open_t in cc

  pub operation_told : (t : kept.Transaction) → s.transaction ≡ Some t → (o : Operation) → is_waiting σ n ≡ false → nat_lt (count_moves t.store.moves) m.limits.operations ≡ true → is_told_for_none σ n (DoCommand (command.Do o)) ≡ false
  operation_told t open_t o idle room =
      ap (λ (x : Outcome). tells_for_none (is_some (transaction_at σ n)) (DoCommand (command.Do o)) x.reply) (operating.at_within m n i k there t open_t o true idle room)
      ∙ decided_takes σ n (session_of s) (transaction_of t) o (decide (ages_of σ) (t.age, needs o)) (keep.mine m n i k there t open_t)

  pub retry_told : (q : request.Request) → request_in (map queued_of m.queue.items) n ≡ Some (queued_of q) → can_retry m.ages (q.age, needs q.operation) ≡ true → is_told_for_none σ n Retry ≡ false
  retry_told q rq may =
      let r = operating.requested m n i k there q rq in
      ap (λ (x : Outcome). tells_for_none (is_some (transaction_at σ n)) Retry x.reply) (operating.retried_as m n i k there q rq true may)
      ∙ retried_takes σ n (session_of s) (transaction_of r.transaction) q.operation (keep.mine m n i k there r.transaction r.open_t)

  pub begin_told : (t : kept.Transaction) → s.transaction ≡ Some t → is_waiting σ n ≡ false → has_level m.limits t ≡ true → is_told_for_none σ n (DoCommand command.Begin) ≡ false
  begin_told t open_t idle room =
      ap (λ (x : Outcome). tells_for_none (is_some (transaction_at σ n)) (DoCommand command.Begin) x.reply)
      (keep.asks m n i k there command.Begin idle ∙ ap (begin σ (session_of s)) (ap (option_map transaction_of) open_t)
      ∙ ap (λ d. open_child σ (session_of s) (transaction_of t) (nat_lt (suc d) m.limits.nesting) (nat_lt (count_moves t.store.moves) m.limits.operations)) (keep.depth m n i k there t open_t))
      ∙ nested_takes σ n (session_of s) (transaction_of t) (nat_lt (suc (length t.store.levels.saved)) m.limits.nesting) (nat_lt (count_moves t.store.moves) m.limits.operations) room (keep.mine m n i k there t open_t)

  pub commit_told : (t : kept.Transaction) → s.transaction ≡ Some t → is_waiting σ n ≡ false → (length t.store.levels.saved == 0) ≡ true → is_told_for_none σ n (DoCommand command.Commit) ≡ false
  commit_told t open_t idle deep =
      ap (λ (x : Outcome). tells_for_none (is_some (transaction_at σ n)) (DoCommand command.Commit) x.reply)
      (keep.asks m n i k there command.Commit idle ∙ ap (commit σ [] (session_of s)) (ap (option_map transaction_of) open_t)
      ∙ ap (commit_at σ [] (session_of s) (transaction_of t)) (ending.outermost m n i k there t open_t ∙ deep))

  pub schema_told : s.transaction ≡ None → is_waiting σ n ≡ false → (c : Schema) → is_told_for_none σ n (DoCommand (command.Schema c)) ≡ false
  schema_told closed idle c =
      ap (λ (x : Outcome). tells_for_none (is_some (transaction_at σ n)) (DoCommand (command.Schema c)) x.reply) (keep.asks m n i k there (command.Schema c) idle ∙ ap (schema σ [] c) (ap (option_map transaction_of) closed))
      ∙ schema_takes σ n [] c (is_busy σ (table_of_schema c)) (has_room σ c)

pub info_told : (m : Parts) (n i : ℕ) → IsHeldAt m.sessions n i → is_waiting (state_of m) n ≡ false → (t : List ℕ) (x : InfoItem) → is_told_for_none (state_of m) n (DoCommand (command.TableInfo t x)) ≡ false
info_told m n i there idle t x =
    ap (λ (o : Outcome). tells_for_none (is_some (transaction_at (state_of m) n)) (DoCommand (command.TableInfo t x)) o.reply)
    (keep.idles (state_of m) n (session_of (the_session m n i)) (command.TableInfo t x) (answering.here m n i there) (there.number nobody) idle)
    ∙ info_takes (state_of m) n t x (find m.catalog t)

-- who joins
pub joins_told : (m : Parts) (n : ℕ) (b : Outbox) → at m.sessions n ≡ None → nat_lt m.greatest n ≡ true → nat_lt (length m.sessions) m.limits.sessions ≡ true → is_told_for_none (state_of m) n (Join b) ≡ false
joins_told m n b stranger new room =
    ap (λ (o : Outcome). tells_for_none (is_some (transaction_at (state_of m) n)) (Join b) o.reply)
    (answering.joins_if m n b stranger true true new (ap (λ l. nat_lt l m.limits.sessions) (answering.as_many m n b stranger) ∙ room))
