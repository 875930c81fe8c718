-- What the callers of a run asked and were told, and the log of its steps, read off the run: each step that was made, those of a
-- one-shot's driver among them. A step that is refused for memory is none (this project's own).
use Rattle.std.specs.Prelude.{◌≡◌, ℕ, suc, Option, List, [], ◌∷◌, ◌++◌, map, Result, Ok, Err}
use Rattle.std.proofs.Common.{inl, inr}
use Rattle.tab_term.specs.Data.{PlainTerm}
use Rattle.tab_etf.specs.Reading.{whole}
use Rattle.tab_etf.specs.declared.fault.Stop.{Stop}
use Rattle.tab_model.specs.declared.data.Move.{Move}
use Rattle.tab_model.specs.declared.data.Entry.{Entry}
use Rattle.tab_model.specs.declared.data.Entry.TheVariants.{Committed}
use Rattle.tab_model.specs.declared.data.Reply.{Reply}
use Rattle.tab_model.specs.Catalogs.{Catalog}
use Rattle.tab_model.specs.Alone.{start, after, replies}
use Rattle.tab_model.specs.State.{State}
use Rattle.tab_model.specs.declared.ask.Ask.TheVariants.{Do as DoCommand}
use Rattle.tab_model.specs.Outcome.{Ask}
use Rattle.tab_model.specs.Run as model
use Rattle.tab_model.specs.Run.{entries}
use Rattle.tab_proto.specs.Requests.{Request}
use Rattle.tab_oneshot.specs.Calls.{Call, Asked, Waited, Again}
use Rattle.tab_session.specs.declared.answered.PayloadReply.{PayloadReply}
use Rattle.tab_session.specs.StepsMade.{IsStepMade, StepMadeOrRefused}
use Rattle.tab_session.specs.OneSessions.{Ran}
use Rattle.tab_session.specs.AnsweredPayloads.{ask_for, IsDrivenRequest, IsMadeOf, AnsweredTerm, AnsweredRead, Answered, AnsweredAll}
use Rattle.tab_session.specs.Replays.{IsRun}

-- a step that a caller asked for, and what it was told
pub record Exchange : Type 0 where
  pub call : model.Call
  pub reply : Reply

-- the exchanges of the steps that were made, in order, and the entries that these steps added to the log
pub record Account : Type 0 where
  pub exchanges : List Exchange
  pub log : List Entry

-- an account without steps
abbrev pub nothing_done : Account
nothing_done = record { exchanges = []; log = [] }

-- the one and then the other
abbrev pub joined : Account → Account → Account
joined a b = record { exchanges = a.exchanges ++ b.exchanges; log = a.log ++ b.log }

-- what was asked in each exchange, by whom, and whose posts refused in it
abbrev pub calls_in : List Exchange → List model.Call
calls_in xs = map (λ (x : Exchange). x.call) xs

-- the reply of each exchange
abbrev pub replies_in : List Exchange → List Reply
replies_in xs = map (λ (x : Exchange). x.reply) xs

-- one step
abbrev pub of_made : (σ : State) (n : ℕ) (a : Ask) (r : Reply) (μ : State) → IsStepMade σ n a r μ → Account
of_made σ n a r μ made = record { exchanges = record { call = record { session = n; ask = a; over = made.over }; reply = r } ∷ []; log = entries made.entry }

-- a step that was made; one that was refused for memory leaves nothing
abbrev pub of_step : (σ : State) (n : ℕ) (a : Ask) (r : Reply) (μ : State) → StepMadeOrRefused σ n a r μ → Account
of_step σ n a r μ (inl made) = of_made σ n a r μ made
of_step σ n a r μ (inr refused) = nothing_done

-- the calls of a one-shot's driver
abbrev pub of_calls : (n : ℕ) (σ : State) (calls : List Call) (μ : State) → Ran n σ calls μ → Account
of_calls n σ [] μ ran = nothing_done
of_calls n σ (Asked c r ∷ calls) μ (ρ, one, ran) = joined (of_step σ n (DoCommand c) r ρ one) (of_calls n ρ calls μ ran)
of_calls n σ (Waited w ∷ calls) μ (none, ran) = of_calls n σ calls μ ran
of_calls n σ (Again ∷ calls) μ ran = of_calls n σ calls μ ran

-- a one-shot: the calls of its driver; no other request is driven
abbrev pub of_driven : (σ : State) (n : ℕ) (a : Request) (r : Reply) (μ : State) → IsDrivenRequest σ n a r μ → Account
of_driven σ n (DoCommand c) r μ driven = of_calls n σ driven.calls μ driven.ran
of_driven σ n a r μ driven = nothing_done

module _ (capacity : ℕ) where
  -- a request: its one step, or the calls of its one-shot's driver
  abbrev pub of_request : (σ : State) (n : ℕ) (a : Request) (r : Reply) (μ : State) → IsMadeOf capacity σ n a r μ → Account
  of_request σ n a r μ (inl (one, made)) = of_made σ n (ask_for capacity a) r μ made
  of_request σ n a r μ (inr driven) = of_driven σ n a r μ driven

  -- a payload
  abbrev pub of_term : (σ : State) (t : PlainTerm) (x : PayloadReply) (μ : State) → AnsweredTerm capacity σ t x μ → Account
  of_term σ t x μ (inl no_command) = nothing_done
  of_term σ t x μ (inr made) = of_request σ x.session made.asked x.reply μ made.made

  -- a payload as it was read; one that is no term leaves nothing
  abbrev pub of_read : (σ : State) (read : Result PlainTerm Stop) (x : PayloadReply) (μ : State) → AnsweredRead capacity σ read x μ → Account
  of_read σ (Err f) x μ answered = nothing_done
  of_read σ (Ok t) x μ answered = of_term σ t x μ answered

  -- a payload that was answered; one that was refused for memory leaves nothing
  abbrev pub of_answer : (σ : State) (payload : List ℕ) (x : PayloadReply) (μ : State) → Answered capacity σ payload x μ → Account
  of_answer σ payload x μ (inl answered) = of_read σ (whole payload) x μ answered
  of_answer σ payload x μ (inr refused) = nothing_done

  -- payloads that were answered one after another
  abbrev pub of_all : (σ : State) (ps : List (List ℕ)) (xs : List PayloadReply) (τ : State) → AnsweredAll capacity σ ps xs τ → Account
  of_all σ [] [] τ ran = nothing_done
  of_all σ (p ∷ ps) [] τ ran = nothing_done
  of_all σ [] (x ∷ xs) τ ran = nothing_done
  of_all σ (p ∷ ps) (x ∷ xs) τ (μ, one, ran) = joined (of_answer σ p x μ one) (of_all μ ps xs τ ran)

  -- a run
  abbrev pub account : (σ : State) (ps : List (List ℕ)) (xs : List PayloadReply) → IsRun capacity σ ps xs → Account
  account σ ps xs s = of_all σ ps xs s.last s.ran

-- an entry that is a commit of this session, the next after so many, and told what it is told alone on these tables
pub record IsCommitOf (n : ℕ) (w : Catalog) (commits : ℕ) (e : Entry) : Type 0 where
  pub age : ℕ
  pub moves : List Move
  pub told : List (Option Reply)
  pub over : List ℕ
  pub is : e ≡ Committed (suc commits) n age moves told over
  pub alone : replies (start w age) moves ≡ told

-- the log of one commit, which leaves the tables that its moves leave alone
pub record IsOneCommit (σ : State) (n : ℕ) (log : List Entry) (μ : State) : Type 0 where
  pub entry : Entry
  pub is : log ≡ entry ∷ []
  pub commit : IsCommitOf n σ.tables σ.commits entry
  pub leaves : (after (start σ.tables commit.age) commit.moves).now ≡ μ.tables
