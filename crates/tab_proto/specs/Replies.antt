-- The terms of replies. An aborted transaction's reason and {already_exists, Tab}, {no_exists, Tab} are those of the
-- Mnesia Reference Manual; the other refusals are this project's own.
use Rattle.std.specs.Prelude.{◌≡◌, ℕ, List, Option, Some, None, Bool, true, false, codes}
use Rattle.tab_term.specs.Data.{PlainTerm, atom, list, pair, triple}
use Rattle.tab_term.specs.View.{term}
use Rattle.tab_model.specs.declared.data.Limit.{Limit}
use Rattle.tab_model.specs.declared.data.Limit.TheVariants as limit
use Rattle.tab_model.specs.declared.data.Kind.{Kind}
use Rattle.tab_model.specs.declared.data.Kind.TheVariants.{Set, Bag}
use Rattle.tab_model.specs.declared.data.Ending.{Ending}
use Rattle.tab_model.specs.declared.data.Ending.TheVariants.{Unsubscribed, Deleted}
use Rattle.tab_model.specs.declared.data.Item.{Item}
use Rattle.tab_model.specs.declared.data.Item.TheVariants.{Began, Batch, Ended}
use Rattle.tab_model.specs.declared.data.TableInfo.{TableInfo}
use Rattle.tab_model.specs.declared.data.TableInfo.TheVariants as info
use Rattle.tab_model.specs.declared.data.Reply.{Reply}
use Rattle.tab_model.specs.declared.data.Reply.TheVariants as reply
use Rattle.tab_model.specs.Names.{number}
use Rattle.tab_etf.specs.declared.outline.Outline.{Outline}
use Rattle.tab_etf.specs.Outlines.{outline_term, IsShortOutline}
use Rattle.tab_etf.specs.declared.brief.Brief.{Brief}
use Rattle.tab_etf.specs.Briefs.{brief_term, IsShortBrief}
use Rattle.tab_proto.specs.Commands.{four, level_word}

-- {error, Reason}
abbrev pub error : PlainTerm → PlainTerm
error reason = pair (atom (codes "error")) reason

-- {aborted, Reason}
abbrev pub aborted : PlainTerm → PlainTerm
aborted reason = pair (atom (codes "aborted")) reason

-- the text of What in {error, {system_limit, What}}
abbrev pub limit_word : Limit → List ℕ
limit_word limit.Sessions = codes "sessions"
limit_word limit.Nesting = codes "nesting"
limit_word limit.Operations = codes "operations"
limit_word limit.Tables = codes "tables"
limit_word limit.Ages = codes "ages"

-- the text of the atom of a table's type
abbrev pub kind_word : Kind → List ℕ
kind_word Set = codes "set"
kind_word Bag = codes "bag"

-- the text of the atom that an end marker has
abbrev pub ending_word : Ending → List ℕ
ending_word Unsubscribed = codes "unsubscribed"
ending_word Deleted = codes "deleted"

-- what table_info is answered: an atom, a list of names or of positions, a number
abbrev pub info_term : TableInfo → PlainTerm
info_term (info.Kind k) = atom (kind_word k)
info_term (info.Attributes ns) = list ns
info_term (info.Index ns) = list ns
info_term (info.Size n) = number n

-- the term of an item as a Take is answered it: a marker, or a batch whole
abbrev pub item_term : Item → PlainTerm
item_term (Began t l None) = triple (atom (codes "mnesia_table_begin")) (atom t) (level_word l)
item_term (Began t l (Some records)) = four (atom (codes "mnesia_table_begin")) (atom t) (level_word l) (list records)
item_term (Batch n events) = triple (atom (codes "batch")) (number n) (list events)
item_term (Ended t e) = triple (atom (codes "mnesia_table_end")) (atom t) (atom (ending_word e))

-- the term of a reply, without a session's number
abbrev pub reply_term : Reply → PlainTerm
reply_term reply.BadTerm = error (atom (codes "badterm"))
reply_term reply.BadCommand = error (atom (codes "badcommand"))
reply_term reply.NoTransaction = error (atom (codes "no_transaction"))
reply_term reply.WaitingNow = error (atom (codes "waiting"))
reply_term reply.InTransaction = error (atom (codes "in_transaction"))
reply_term reply.NotWaiting = error (atom (codes "not_waiting"))
reply_term reply.NoMemory = error (atom (codes "no_memory"))
reply_term (reply.SystemLimit l) = error (pair (atom (codes "system_limit")) (atom (limit_word l)))
reply_term reply.BadSession = error (atom (codes "badsession"))
reply_term (reply.NoTable t) = aborted (pair (atom (codes "no_exists")) (atom t))
reply_term (reply.BadType t r) = aborted (triple (atom (codes "bad_type")) (atom t) (term r))
reply_term (reply.NoIndex t a) = aborted (triple (atom (codes "no_index")) (atom t) (term a))
reply_term (reply.UserAbort r) = aborted (term r)
reply_term (reply.AlreadyExists t) = aborted (pair (atom (codes "already_exists")) (atom t))
reply_term (reply.Locked t) = aborted (pair (atom (codes "locked")) (atom t))
reply_term (reply.BadDefinition t w) = aborted (triple (atom (codes "bad_def")) (atom t) (term w))
reply_term (reply.UnknownTable t) = error (pair (atom (codes "no_exists")) (atom t))
reply_term (reply.AlreadySubscribed t) = error (pair (atom (codes "already_subscribed")) (atom t))
reply_term (reply.NotSubscribed t) = error (pair (atom (codes "not_subscribed")) (atom t))
reply_term reply.OutboxFull = error (atom (codes "outbox_full"))
reply_term reply.OverflowUntold = error (atom (codes "overflow"))
reply_term reply.Waiting = atom (codes "waiting")
reply_term reply.Restart = atom (codes "restart")
reply_term reply.Done = atom (codes "ok")
reply_term (reply.Tid age) = pair (atom (codes "tid")) (number age)
reply_term (reply.Atomic n) = pair (atom (codes "atomic")) (number n)
reply_term reply.AtomicOk = pair (atom (codes "atomic")) (atom (codes "ok"))
reply_term (reply.AtomicTerms ts) = pair (atom (codes "atomic")) (list ts)
reply_term reply.NoMore = aborted (atom (codes "nomore"))
reply_term reply.NoWait = aborted (atom (codes "nowait"))
reply_term (reply.Found rows) = list rows
reply_term reply.SubscribedHere = pair (atom (codes "ok")) (atom (codes "nonode@nohost"))
reply_term (reply.TableInfo i) = info_term i
reply_term (reply.Taken i) = item_term i
reply_term (reply.Overflow n) = pair (atom (codes "mnesia_overflow")) (number n)
reply_term reply.Empty = atom (codes "empty")

-- the answers to operations and to aborts
abbrev pub is_told : Reply → Bool
is_told reply.Done = true
is_told (reply.Found rows) = true
is_told (reply.NoTable t) = true
is_told (reply.BadType t r) = true
is_told (reply.NoIndex t a) = true
is_told (reply.UserAbort r) = true
is_told r = false

-- the replies that hold a term or a name, or more than a pair
abbrev pub is_long : Reply → Bool
is_long (reply.SystemLimit l) = true
is_long (reply.NoTable t) = true
is_long (reply.BadType t r) = true
is_long (reply.NoIndex t a) = true
is_long (reply.UserAbort r) = true
is_long (reply.AlreadyExists t) = true
is_long (reply.Locked t) = true
is_long (reply.BadDefinition t w) = true
is_long (reply.UnknownTable t) = true
is_long (reply.AlreadySubscribed t) = true
is_long (reply.NotSubscribed t) = true
is_long (reply.AtomicTerms ts) = true
is_long (reply.Found rows) = true
is_long (reply.TableInfo i) = true
is_long (reply.Taken i) = true
is_long r = false

-- the replies that are a list of records or of answers, and may be told to pass a bound
abbrev pub is_listing : Reply → Bool
is_listing (reply.AtomicTerms ts) = true
is_listing (reply.Found rows) = true
is_listing r = false

-- {Session, Reply}, or {reply, Reply} where no session is named
abbrev pub response : Option ℕ → Reply → PlainTerm
response (Some session) r = pair (number session) (reply_term r)
response None r = pair (atom (codes "reply")) (reply_term r)

-- a term by its parts, with room for a part before it
pub record IsOutlineOf (o : Outline) (t : PlainTerm) : Type 0 where
  pub alone : o.first ≡ None
  pub is : outline_term o ≡ t
  pub short : IsShortOutline o

-- a term by its words and numbers
pub record IsBriefOf (b : Brief) (t : PlainTerm) : Type 0 where
  pub is : brief_term b ≡ t
  pub short : IsShortBrief b
