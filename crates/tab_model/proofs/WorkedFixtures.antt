-- Worked rows: words for small runs.
use Rattle.std.specs.Prelude.{ℕ, List, [], Some, None, pos, codes, false}
use Rattle.tab_term.specs.Data.{PlainTerm, int, atom, tuple, PlainTerms, none, one_more}
use Rattle.tab_term.specs.declared.term.Term.TheVariants as is
use Rattle.tab_model.specs.declared.data.Operation.{Operation}
use Rattle.tab_model.specs.declared.data.Operation.TheVariants as op
use Rattle.tab_model.specs.declared.data.Level.TheVariants.{Simple}
use Rattle.tab_model.specs.declared.data.Schema.TheVariants.{Create}
use Rattle.tab_model.specs.declared.data.Command.TheVariants as command
use Rattle.tab_model.specs.declared.data.Limits.{Limits}
use Rattle.tab_model.specs.declared.data.Reply.{Reply}
use Rattle.tab_model.specs.State.{new, Outbox}
use Rattle.tab_model.specs.declared.ask.Ask.TheVariants.{Join, Take, Do as DoCommand}
use Rattle.tab_model.specs.Outcome.{Ask}
use Rattle.tab_model.specs.Run.{Call, replies_of}

abbrev pub num : ℕ → PlainTerm
num n = int (pos n)

abbrev pub record_of : List ℕ → ℕ → List ℕ → PlainTerms
record_of t k v = one_more (atom t) (one_more (num k) (one_more (atom v) none))

abbrev pub rec : List ℕ → ℕ → List ℕ → PlainTerm
rec t k v = tuple (record_of t k v)

abbrev pub usual : Limits
usual = record { sessions = 64; nesting = 16; operations = 1000; tables = 256; ages = 1000000; journal = 1024; journal_bytes = 67108864 }

abbrev pub empty_outbox : ℕ → Outbox
empty_outbox c = record { items = []; refusals = 0; capacity = Some c; mailbox = None }

abbrev pub call : ℕ → Ask → Call
call n a = record { session = n; ask = a; over = [] }

abbrev pub call_over : ℕ → Ask → List ℕ → Call
call_over n a over = record { session = n; ask = a; over = over }

abbrev pub joins : ℕ → Call
joins n = call n (Join (empty_outbox 64))

abbrev pub joins_with : ℕ → ℕ → Call
joins_with n c = call n (Join (empty_outbox c))

abbrev pub creates : ℕ → List ℕ → PlainTerms → Call
creates n t os = call n (DoCommand (command.Schema (Create t os)))

abbrev pub does : ℕ → Operation → Call
does n o = call n (DoCommand (command.Do o))

abbrev pub begins : ℕ → Call
begins n = call n (DoCommand command.Begin)

abbrev pub commits : ℕ → Call
commits n = call n (DoCommand command.Commit)

abbrev pub writes : ℕ → List ℕ → ℕ → List ℕ → Call
writes n t k v = does n (op.Write (is.Tuple (record_of t k v)))

abbrev pub reads : ℕ → List ℕ → ℕ → Call
reads n t k = does n (op.Read t (is.Int (pos k)))

abbrev pub subscribes : ℕ → List ℕ → Call
subscribes n t = call n (DoCommand (command.Subscribe t Simple false))

abbrev pub takes : ℕ → Call
takes n = call n Take

abbrev pub told_in : List Call → List Reply
told_in cs = replies_of (new usual) cs

abbrev pub bag : PlainTerms
bag = one_more (tuple (one_more (atom (codes "type")) (one_more (atom (codes "bag")) none))) none
