-- How a payload is answered, and the bytes of an answer (this project's own rules).
use Rattle.std.specs.Prelude.{◌≡◌, ◌≢◌, ℕ, Bool, true, false, not, List, [], ◌∷◌, Some, None, Result, Ok, Err, ◌⊎◌}
use Rattle.std.specs.List.{All, flat_map}
use Rattle.tab_term.specs.Data.{PlainTerm}
use Rattle.tab_term.specs.Canon.{canon}
use Rattle.tab_etf.specs.Frames.{frame}
use Rattle.tab_etf.specs.Reading.{whole}
use Rattle.tab_etf.specs.declared.fault.Stop.{Stop}
use Rattle.tab_model.specs.State.{Outbox, State}
use Rattle.tab_model.specs.declared.ask.Ask.TheVariants.{Do as DoCommand}
use Rattle.tab_model.specs.Outcome.{Ask}
use Rattle.tab_model.specs.declared.data.Reply.{Reply}
use Rattle.tab_model.specs.declared.data.Reply.TheVariants.{BadTerm, BadCommand, NoMemory, Waiting, Restart}
use Rattle.tab_model.specs.declared.data.Item.{Item}
use Rattle.tab_model.specs.Run.{delivered_by}
use Rattle.tab_core.specs.Runs.{ask_of}
use Rattle.tab_core.specs.Steps.{takes_no_memory}
use Rattle.tab_proto.specs.Requests.{Request, request_term, IsSession, IsRequest, IsNumbered, HasNoNumber, AsksOneShot}
use Rattle.tab_proto.specs.Replies.{response}
use Rattle.tab_oneshot.specs.OneShots.{is_one_shot}
use Rattle.tab_session.specs.declared.answered.PayloadReply.{PayloadReply}
use Rattle.tab_session.specs.StepsMade.{IsStepMade}
use Rattle.tab_session.specs.OneSessions.{IsDriven}

-- a post that can hold so many items, and has none
abbrev pub empty_post : ℕ → Outbox
empty_post capacity = record { items = []; refusals = 0; capacity = Some capacity; mailbox = None }

-- the term is no request
abbrev pub AsksNothing : PlainTerm → Type 0
AsksNothing t = (session : ℕ) (a : Request) → IsSession session → IsRequest a → request_term session a ≢ t

-- a one-shot is run by its driver, and any other request is one step
abbrev pub is_step : Request → Bool
is_step (DoCommand c) = not (is_one_shot c)
is_step r = true

-- the request is a one-shot, which its driver ran up to this reply and this state
abbrev pub IsDrivenRequest : State → ℕ → Request → Reply → State → Type 0
IsDrivenRequest σ session (DoCommand c) r μ = IsDriven σ session c r μ
IsDrivenRequest σ session a r μ = ⊥

-- the number under which a term is refused
abbrev pub IsNumberOf : PlainTerm → ℕ → Type 0
IsNumberOf t n = (n ≡ 0) × HasNoNumber t ⊎ IsNumbered t n

-- no command: refused, with nothing changed
pub record IsNoCommand (σ : State) (t : PlainTerm) (x : PayloadReply) (μ : State) : Type 0 where
  pub nothing : AsksNothing t
  pub reply : x.reply ≡ BadCommand
  pub same : μ ≡ σ
  pub under : IsNumberOf t x.session

-- each session joins with a post of the same capacity
module _ (capacity : ℕ) where
  -- what the core is asked for it
  abbrev pub ask_for : Request → Ask
  ask_for a = ask_of (λ u. empty_post capacity) a

  -- the request was made: as one step, or as a one-shot by its driver
  abbrev pub IsMadeOf : State → ℕ → Request → Reply → State → Type 0
  IsMadeOf σ session a r μ = (is_step a ≡ true) × IsStepMade σ session (ask_for a) r μ ⊎ IsDrivenRequest σ session a r μ

  -- a step that takes memory
  abbrev pub TakesStep : State → ℕ → Request → Type 0
  TakesStep σ session a = (is_step a ≡ true) × (takes_no_memory σ session (ask_for a) ≡ false)

  -- what a request asks for was made, or its step was refused for memory
  abbrev pub RepliesTo : State → ℕ → Request → Reply → State → Type 0
  RepliesTo σ session a r μ = IsMadeOf σ session a r μ ⊎ TakesStep σ session a × (r ≡ NoMemory) × (μ ≡ σ)

  -- the term is a request of the answer's session, and it was made
  pub record IsMade (σ : State) (t : PlainTerm) (x : PayloadReply) (μ : State) : Type 0 where
    pub asked : Request
    pub spelled : request_term x.session asked ≡ t
    pub session : IsSession x.session
    pub formed : IsRequest asked
    pub made : IsMadeOf σ x.session asked x.reply μ

  -- the term was refused as no command, or its request was made
  abbrev pub AnsweredTerm : State → PlainTerm → PayloadReply → State → Type 0
  AnsweredTerm σ t x μ = IsNoCommand σ t x μ ⊎ IsMade σ t x μ

  -- no term: badterm under 0, with nothing changed; a term: answered as a term is
  abbrev pub AnsweredRead : State → Result PlainTerm Stop → PayloadReply → State → Type 0
  AnsweredRead σ (Err f) x μ = (x ≡ record { session = 0; reply = BadTerm }) × (μ ≡ σ)
  AnsweredRead σ (Ok t) x μ = AnsweredTerm σ t x μ

  -- the term asks for one step, which takes memory
  pub record AsksStep (σ : State) (t : PlainTerm) : Type 0 where
    pub session : ℕ
    pub asked : Request
    pub spelled : request_term session asked ≡ t
    pub formed : IsRequest asked
    pub takes : TakesStep σ session asked

  -- what takes memory once its payload is decoded: the parts of a one-shot, and a step that takes some; what
  -- a one-shot's driver is refused stands in its calls
  abbrev pub TakesMemory : State → PlainTerm → ℕ → Type 0
  TakesMemory σ t session = IsNumbered t session × (AsksOneShot t ⊎ AsksStep σ t)

  -- refused for memory, with nothing changed
  pub record RefusedTerm (σ : State) (t : PlainTerm) (x : PayloadReply) (μ : State) : Type 0 where
    pub reply : x.reply ≡ NoMemory
    pub same : μ ≡ σ
    pub under : TakesMemory σ t x.session

  -- under 0 where the payload could not be decoded for want of memory
  abbrev pub IsUnderRead : State → Result PlainTerm Stop → ℕ → Type 0
  IsUnderRead σ (Err f) session = session ≡ 0
  IsUnderRead σ (Ok t) session = (session ≡ 0) ⊎ TakesMemory σ t session

  -- the payload was refused for memory, with nothing changed
  pub record Refused (σ : State) (read : Result PlainTerm Stop) (x : PayloadReply) (μ : State) : Type 0 where
    pub reply : x.reply ≡ NoMemory
    pub same : μ ≡ σ
    pub under : IsUnderRead σ read x.session

  -- the payload was answered as it reads, or refused for memory
  abbrev pub Answered : State → List ℕ → PayloadReply → State → Type 0
  Answered σ payload x μ = AnsweredRead σ (whole payload) x μ ⊎ Refused σ (whole payload) x μ

  -- payloads answered one after another
  abbrev pub AnsweredAll : State → List (List ℕ) → List PayloadReply → State → Type 0
  AnsweredAll σ [] [] τ = τ ≡ σ
  AnsweredAll σ (p ∷ ps) [] τ = ⊥
  AnsweredAll σ [] (x ∷ xs) τ = ⊥
  AnsweredAll σ (p ∷ ps) (x ∷ xs) τ = (μ : State) × Answered σ p x μ × AnsweredAll μ ps xs τ

-- no answer of a run is a want of memory
abbrev pub NoneRefused : List PayloadReply → Type 0
NoneRefused xs = All (λ (x : PayloadReply). x.reply ≢ NoMemory) xs

-- no answer of a run is a wait or a restart
abbrev pub NoneWaits : List PayloadReply → Type 0
NoneWaits xs = All (λ (x : PayloadReply). (x.reply ≢ Waiting) × (x.reply ≢ Restart)) xs

-- where a number stands in this payload, it is this session's
abbrev pub IsOf : ℕ → List ℕ → Type 0
IsOf n p = (t : PlainTerm) (m : ℕ) → whole p ≡ Ok t → IsNumbered t m → m ≡ n

-- where these payloads have numbers, they are this session's
abbrev pub AreOf : ℕ → List (List ℕ) → Type 0
AreOf n ps = All (IsOf n) ps

-- the items that a session took in a run
abbrev pub taken_by : ℕ → List PayloadReply → List Item
taken_by m xs = flat_map (λ x. delivered_by m x.session x.reply) xs

-- ---- the bytes of an answer

-- one payload, whose first byte is the version of the external term format
abbrev pub answer_payload : PayloadReply → List ℕ
answer_payload x = 131 ∷ canon (response (Some x.session) x.reply)

-- the payload of an answer behind its length
unfoldable pub answer_frame : PayloadReply → List ℕ
answer_frame x = frame (answer_payload x)
