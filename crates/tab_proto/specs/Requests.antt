-- The terms of requests (this project's own rule): a session's number, and a command or a word for what isn't one.
use Rattle.std.specs.Prelude.{◌≡◌, ◌≢◌, ◌≤◌, ◌<◌, ℤ, Option, Some, None, ℕ, List, Bool, true, false, ◌||◌, codes, pos, Result, Ok, Err}
use Rattle.std.specs.Str.{bytes_eq}
use Rattle.tab_term.specs.Data.{PlainTerm, int, atom, tuple, none, one_more, pair}
use Rattle.tab_model.specs.declared.ask.Ask.{Ask}
use Rattle.tab_model.specs.declared.ask.Ask.TheVariants as ask
use Rattle.tab_proto.specs.declared.fault.ProtoFault.{ProtoFault}
use Rattle.tab_proto.specs.declared.fault.ProtoFault.TheVariants.{BadCommand, NoMemory}
use Rattle.tab_proto.specs.Commands.{term_of, is_command}
use Rattle.tab_proto.specs.Reading.{is_one_word, is_call, is_one_shot_term}

-- what a session asks, who joins with nothing
abbrev pub Request : Type 0
Request = Ask (Unit {0})

-- the term of what a session asks, without its number
abbrev pub asked_term : Request → PlainTerm
asked_term (ask.Join u) = atom (codes "join")
asked_term ask.Leave = atom (codes "leave")
asked_term ask.Retry = atom (codes "retry")
asked_term ask.Take = atom (codes "take")
asked_term (ask.Do c) = term_of c

-- {Session, X}
abbrev pub request_term : ℕ → Request → PlainTerm
request_term session r = pair (int (pos session)) (asked_term r)

-- the number in {Number, X}
abbrev pub number_in : PlainTerm → Option ℤ
number_in (tuple (one_more (int z) (one_more x none))) = Some z
number_in t = None

-- a session's number
abbrev pub IsSession : ℕ → Type 0
IsSession n = (1 ≤ n) × (n < 4294967296)

-- {Session, X}, whatever X is
abbrev pub IsNumbered : PlainTerm → ℕ → Type 0
IsNumbered t n = IsSession n × (number_in t ≡ Some (pos n))

-- the term is no {Session, X}
abbrev pub HasNoNumber : PlainTerm → Type 0
HasNoNumber t = (n : ℕ) → IsSession n → number_in t ≢ Some (pos n)

-- what a request has to be to have one of these forms
abbrev pub IsRequest : Request → Type 0
IsRequest (ask.Do c) = is_command c ≡ true
IsRequest r = Unit {0}

-- the text is a request without arguments: join, leave, retry, take, begin or commit
abbrev pub is_word_alone : List ℕ → Bool
is_word_alone w = bytes_eq w (codes "join") || (bytes_eq w (codes "leave") || (bytes_eq w (codes "retry") || (bytes_eq w (codes "take") || is_one_word w)))

-- the term is a request, without a session's number
abbrev pub is_asked : PlainTerm → Bool
is_asked (atom w) = is_word_alone w
is_asked (tuple ts) = is_call ts
is_asked t = false

-- {Session, {transaction, Ops, Retries}}
pub record AsksOneShot (t : PlainTerm) : Type 0 where
  pub session : ℕ
  pub asked : PlainTerm
  pub is : t ≡ pair (int (pos session)) asked
  pub numbered : IsSession session
  pub one_shot : is_one_shot_term asked ≡ true

-- what this term asks, refused only where `known` is false; only a one-shot may want for memory
abbrev pub ReadsAs : PlainTerm → Bool → Result Request ProtoFault → Type 0
ReadsAs t known (Ok r) = (asked_term r ≡ t) × IsRequest r
ReadsAs t known (Err BadCommand) = known ≡ false
ReadsAs t known (Err NoMemory) = is_one_shot_term t ≡ true
