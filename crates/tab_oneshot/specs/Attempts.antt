-- One attempt of a one-shot: its commands, part by part, and what each reply leads to (the Mnesia User's Guide,
-- "Nested Transactions", for what an inner transaction's end leaves; the rest is this project's own).
use Rattle.std.specs.Prelude.{◌≡◌, ℕ, zero, suc, pos, List, [], ◌∷◌, ◌++◌, length, Bool, true, false, Option, Some, None, ◌⊎◌}
use Rattle.tab_term.specs.Data.{PlainTerm, PlainTerms, none, one_more}
use Rattle.tab_term.specs.declared.term.Term.TheVariants.{Int}
use Rattle.tab_model.specs.declared.data.Part.{Part}
use Rattle.tab_model.specs.declared.data.Part.TheVariants as part
use Rattle.tab_model.specs.declared.data.Command.{Command}
use Rattle.tab_model.specs.declared.data.Command.TheVariants as command
use Rattle.tab_model.specs.declared.data.Reply.{Reply}
use Rattle.tab_model.specs.declared.data.Reply.TheVariants as reply
use Rattle.tab_proto.specs.Replies.{reply_term}
use Rattle.tab_oneshot.specs.declared.answer.Sort.{Sort}
use Rattle.tab_oneshot.specs.declared.answer.Sort.TheVariants as sort
use Rattle.tab_oneshot.specs.Calls.{Call, Asked, Waited}

-- what an answer says of the levels
abbrev pub sort_of : Reply → Sort
sort_of reply.Done = sort.Answered
sort_of (reply.Found rows) = sort.Answered
sort_of (reply.NoTable t) = sort.Failed
sort_of (reply.BadType t r) = sort.Failed
sort_of (reply.NoIndex t a) = sort.Failed
sort_of (reply.UserAbort r) = sort.Aborted
sort_of (reply.Tid age) = sort.Opened
sort_of reply.AtomicOk = sort.Joined
sort_of (reply.Atomic n) = sort.Committed
sort_of reply.Restart = sort.Restarted
sort_of reply.Waiting = sort.Waits
sort_of reply.NoMemory = sort.Refused
sort_of (reply.SystemLimit l) = sort.Refused
sort_of r = sort.Other

-- the command is run, and its reply leads to what follows
abbrev pub Asks : Command → (Sort → Reply → List Call → Type 0) → List Call → Type 0
Asks c After calls = (x : Reply) × (rest : List Call) × (calls ≡ Asked c x ∷ rest) × After (sort_of x) x rest

-- ---- ends of levels

-- {abort, 0} was answered: with {aborted, _} it goes on, and any other answer is the last reply
abbrev pub Ended : Sort → Reply → (List Call → Type 0) → List Call → Reply → Type 0
Ended sort.Aborted x Rest rest last = Rest rest
Ended s x Rest rest last = (rest ≡ []) × (last ≡ x)

-- so many levels are ended by {abort, 0}, and the last reply is this one
abbrev pub Ends : ℕ → Reply → List Call → Reply → Type 0
Ends zero r calls last = (calls ≡ []) × (last ≡ r)
Ends (suc n) r calls last = Asks (command.Abort (Int (pos 0))) (λ s x rest. Ended s x (λ ys. Ends n r ys last) rest last) calls

-- ---- what follows an answer

-- it goes on behind the ends of so many levels, with these open: the answers in each, innermost first; or it is over with
-- this reply; or it begins anew
pub data Turn : Type 0 where
  GoesOn : ℕ → List PlainTerms → Turn
  IsOver : Reply → Turn
  Restarts : Turn

-- the answer is the reply as it is
abbrev pub AsItIs : Reply → List Call → Turn → Type 0
AsItIs r calls turn = (calls ≡ []) × (turn ≡ IsOver r)

-- all open levels are ended, and this is the reply
abbrev pub Stops : Reply → List PlainTerms → List Call → Turn → Type 0
Stops r levels calls turn = (last : Reply) × Ends (length levels) r calls last × (turn ≡ IsOver last)

-- the answers with one more behind them
abbrev pub with_last : PlainTerms → PlainTerm → PlainTerms
with_last none t = one_more t none
with_last (one_more u us) t = one_more u (with_last us t)

-- one more answer in the innermost level
abbrev pub told : PlainTerm → List PlainTerms → List PlainTerms
told t [] = []
told t (ts ∷ outer) = with_last ts t ∷ outer

-- the answer is put into the innermost level, or memory for its term was refused
abbrev pub Puts : ℕ → Reply → List PlainTerms → List Call → Turn → Type 0
Puts skipped r levels calls turn = (calls ≡ []) × (turn ≡ GoesOn skipped (told (reply_term r) levels)) ⊎ Stops reply.NoMemory levels calls turn

-- the answer ended the innermost level: it is the reply of the whole, or it stands in the level around, which goes on behind
-- what is left of the ended one
abbrev pub LevelEnds : Reply → List PlainTerms → List Call → Turn → Type 0
LevelEnds r (ts ∷ us ∷ outer) calls turn = Puts 1 r (us ∷ outer) calls turn
LevelEnds r levels calls turn = AsItIs r calls turn

-- after an operation's answer: it is put, ends its level, begins all anew, ends all levels, or is the reply
abbrev pub AfterOperation : Sort → Reply → List PlainTerms → List Call → Turn → Type 0
AfterOperation sort.Answered r levels calls turn = Puts 0 r levels calls turn
AfterOperation sort.Failed r levels calls turn = LevelEnds r levels calls turn
AfterOperation sort.Restarted r levels calls turn = (calls ≡ []) × (turn ≡ Restarts)
AfterOperation sort.Refused r levels calls turn = Stops r levels calls turn
AfterOperation s r levels calls turn = AsItIs r calls turn

-- after a wait, with an operation's answer; where the surroundings can't wait, all levels end with nowait
abbrev pub AfterWait : Option Reply → List PlainTerms → List Call → Turn → Type 0
AfterWait None levels calls turn = Stops reply.NoWait levels calls turn
AfterWait (Some r) levels calls turn = AfterOperation (sort_of r) r levels calls turn

-- an operation that waits is answered after one wait
abbrev pub AfterAsked : Sort → Reply → List PlainTerms → List Call → Turn → Type 0
AfterAsked sort.Waits r levels calls turn = (w : Option Reply) × (rest : List Call) × (calls ≡ Waited w ∷ rest) × AfterWait w levels rest turn
AfterAsked s r levels calls turn = AfterOperation s r levels calls turn

-- after the answer to {abort, Reason}: its level is over, a refusal ends all levels, or it is the reply as it is
abbrev pub AfterAbort : Sort → Reply → List PlainTerms → List Call → Turn → Type 0
AfterAbort sort.Aborted r levels calls turn = LevelEnds r levels calls turn
AfterAbort sort.Refused r levels calls turn = Stops r levels calls turn
AfterAbort s r levels calls turn = AsItIs r calls turn

-- after the answer to a child's begin: a level without answers is open, a refusal ends all, or it is the reply
abbrev pub AfterBegin : Sort → Reply → List PlainTerms → List Call → Turn → Type 0
AfterBegin sort.Opened r levels calls turn = (calls ≡ []) × (turn ≡ GoesOn 0 (none ∷ levels))
AfterBegin sort.Refused r levels calls turn = Stops r levels calls turn
AfterBegin s r levels calls turn = AsItIs r calls turn

-- {atomic, Replies} of an inner transaction stands in the level around it
abbrev pub Joins : Reply → List PlainTerms → List Call → Turn → Type 0
Joins r (ts ∷ us ∷ outer) calls turn = Puts 0 (reply.AtomicTerms ts) (us ∷ outer) calls turn
Joins r levels calls turn = AsItIs r calls turn

-- after the answer to a child's commit: it joins the level around, a refusal ends all, or it is the reply
abbrev pub AfterInner : Sort → Reply → List PlainTerms → List Call → Turn → Type 0
AfterInner sort.Joined r levels calls turn = Joins r levels calls turn
AfterInner sort.Refused r levels calls turn = Stops r levels calls turn
AfterInner s r levels calls turn = AsItIs r calls turn

-- the answers in the innermost level
abbrev pub innermost : List PlainTerms → PlainTerms
innermost [] = none
innermost (ts ∷ outer) = ts

-- after the answer to the commit of level 1: its answers are the reply, or a refusal ends all, or it is the reply
abbrev pub AfterCommit : Sort → Reply → List PlainTerms → List Call → Reply → Type 0
AfterCommit sort.Committed r levels calls last = (calls ≡ []) × (last ≡ reply.AtomicTerms (innermost levels))
AfterCommit sort.Refused r levels calls last = Ends (length levels) r calls last
AfterCommit s r levels calls last = (calls ≡ []) × (last ≡ r)

-- ---- a part

-- the part's command is run, and this is what its reply leads to
abbrev pub HandsIn : Part → List PlainTerms → List Call → Turn → Type 0
HandsIn (part.Do o) levels calls turn = Asks (command.Do o) (λ s x rest. AfterAsked s x levels rest turn) calls
HandsIn (part.Abort r) levels calls turn = Asks (command.Abort r) (λ s x rest. AfterAbort s x levels rest turn) calls
HandsIn part.Open levels calls turn = Asks command.Begin (λ s x rest. AfterBegin s x levels rest turn) calls
HandsIn part.Close levels calls turn = Asks command.Commit (λ s x rest. AfterInner s x levels rest turn) calls

-- whether a part takes memory before it is run, for the place of its reply
abbrev pub takes_place : Part → Bool
takes_place part.Close = false
takes_place p = true

-- the part is run, or it is refused memory before that, and all open levels are ended
abbrev pub Serves : Part → List PlainTerms → List Call → Turn → Type 0
Serves p levels calls turn = HandsIn p levels calls turn ⊎ (takes_place p ≡ true) × Stops reply.NoMemory levels calls turn

-- ---- the parts in order

-- how many levels are still to end behind this part, where so many and one more were
abbrev pub passed : Part → ℕ → ℕ
passed part.Open n = suc (suc n)
passed part.Close n = n
passed p n = suc n

-- with what is left of the attempt
abbrev pub Goes : (ℕ → List PlainTerms → List Call → Option Reply → Type 0) → Turn → List Call → Option Reply → Type 0
Goes Rest (GoesOn skipped levels) calls ending = Rest skipped levels calls ending
Goes Rest (IsOver r) calls ending = (calls ≡ []) × (ending ≡ Some r)
Goes Rest Restarts calls ending = (calls ≡ []) × (ending ≡ None)

-- the commit of level 1
abbrev pub Commits : List PlainTerms → List Call → Reply → Type 0
Commits levels calls last = Asks command.Commit (λ s x rest. AfterCommit s x levels rest last) calls

-- an attempt over these parts, of which those before the ends of so many levels are left out, with these answers in the
-- open levels. It ends with a reply, or None where it is to begin anew
abbrev pub IsAttempt : List Part → ℕ → List PlainTerms → List Call → Option Reply → Type 0
IsAttempt [] skipped levels calls ending = (last : Reply) × Commits levels calls last × (ending ≡ Some last)
IsAttempt (p ∷ parts) zero levels calls ending =
    (now rest : List Call) × (turn : Turn) × (calls ≡ now ++ rest) × Serves p levels now turn × Goes (IsAttempt parts) turn rest ending
IsAttempt (p ∷ parts) (suc n) levels calls ending = IsAttempt parts (passed p n) levels calls ending
