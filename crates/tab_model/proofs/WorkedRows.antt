-- Worked rows, by computing.
use Rattle.std.proofs.Common.{◌≡◌, ℕ, List, [], ◌∷◌, ◌++◌, refl, Some, None, true, false}
use Rattle.std.specs.Prelude.{codes, pos, negsuc}
use Rattle.tab_term.specs.Data.{PlainTerm, int, atom, tuple, list, PlainTerms, none, one_more, pair, triple}
use Rattle.tab_term.specs.declared.term.Term.TheVariants as is
use Rattle.tab_model.specs.declared.data.Operation.TheVariants as op
use Rattle.tab_model.specs.declared.data.Reply.TheVariants as reply
use Rattle.tab_model.specs.declared.data.Kind.TheVariants.{Set}
use Rattle.tab_model.specs.declared.data.Schema.TheVariants.{Remove, AddIndex, DelIndex}
use Rattle.tab_model.specs.declared.data.Command.TheVariants as command
use Rattle.tab_model.specs.declared.data.Level.TheVariants.{Simple, Detailed}
use Rattle.tab_model.specs.declared.data.Item.TheVariants.{Began, Batch, Ended}
use Rattle.tab_term.specs.Canon.{canon, int_contents}
use Rattle.tab_model.specs.Names.{less, plain_terms, names, numbers}
use Rattle.tab_model.specs.declared.data.Ending.TheVariants as ending
use Rattle.tab_model.specs.declared.data.InfoItem.TheVariants as item
use Rattle.tab_model.specs.declared.data.TableInfo.TheVariants as info
use Rattle.tab_model.specs.declared.data.Limit.TheVariants as limit
use Rattle.tab_model.specs.declared.data.Limits.{Limits}
use Rattle.tab_model.specs.State.{new}
use Rattle.tab_model.specs.declared.data.Change.TheVariants as change
use Rattle.tab_model.specs.Shapes.{tid, five, term_value, change_of}
use Rattle.tab_model.specs.declared.data.Entry.TheVariants.{Changed, Subscribed}
use Rattle.tab_model.specs.Log.{in_force}
use Rattle.tab_model.specs.declared.ask.Ask.TheVariants.{Retry, Leave, Do as DoCommand}
use Rattle.tab_model.specs.Outcome.{outcome}
use Rattle.tab_model.specs.Run.{Call, replies_of}
use Rattle.tab_model.specs.Callers.{no_observation, observe_all}
use Rattle.tab_model.proofs.WorkedFixtures.{num, record_of, rec, joins, joins_with, creates, call, call_over, does, begins, commits, writes, reads, subscribes, takes, told_in, bag}

abbrev event : PlainTerm → PlainTerm
event x = pair (atom (codes "mnesia_table_event")) x

abbrev three : List ℕ → PlainTerm → PlainTerm
three n x = triple (atom n) x (tid 1)

abbrev write1 : List ℕ → ℕ → List ℕ → PlainTerm
write1 t k v = three (codes "write") (rec t k v)

abbrev write_by : ℕ → List ℕ → ℕ → List ℕ → PlainTerm
write_by age t k v = triple (atom (codes "write")) (rec t k v) (tid age)

abbrev detailed_write : List ℕ → PlainTerm → PlainTerms → PlainTerm
detailed_write t r old = five (atom (codes "write")) (atom t) r (list old) (tid 1)

order : less (num 300) (num 1) ≡ false
unfolding canon int_contents
order = refl

pub first_path : told_in (joins 1 ∷ creates 1 (codes "t") none ∷ begins 1 ∷ writes 1 (codes "t") 1 (codes "a") ∷ reads 1 (codes "t") 1 ∷ commits 1 ∷ [])
    ≡ reply.Done ∷ reply.AtomicOk ∷ reply.Tid 1 ∷ reply.Done ∷ reply.Found (plain_terms (rec (codes "t") 1 (codes "a") ∷ [])) ∷ reply.Atomic 1 ∷ []
unfolding outcome canon int_contents
first_path = refl

pub row_bag : told_in (joins 1 ∷ creates 1 (codes "b") bag ∷ subscribes 1 (codes "b") ∷ takes 1 ∷ begins 1 ∷ writes 1 (codes "b") 1 (codes "x") ∷ writes 1 (codes "b") 1 (codes "y") ∷ writes 1 (codes "b") 1 (codes "z") ∷ writes 1 (codes "b") 1 (codes "x") ∷ reads 1 (codes "b") 1 ∷ does 1 (op.DeleteObject (is.Tuple (record_of (codes "b") 1 (codes "y")))) ∷ reads 1 (codes "b") 1 ∷ does 1 (op.Delete (codes "b") (is.Int (pos 2))) ∷ commits 1 ∷ takes 1 ∷ takes 1 ∷ [])
    ≡ reply.Done ∷ reply.AtomicOk ∷ reply.SubscribedHere ∷ reply.Taken (Began (codes "b") Simple None) ∷ reply.Tid 1 ∷ reply.Done ∷ reply.Done ∷ reply.Done ∷ reply.Done ∷ reply.Found (plain_terms (rec (codes "b") 1 (codes "x") ∷ rec (codes "b") 1 (codes "y") ∷ rec (codes "b") 1 (codes "z") ∷ [])) ∷ reply.Done ∷ reply.Found (plain_terms (rec (codes "b") 1 (codes "x") ∷ rec (codes "b") 1 (codes "z") ∷ [])) ∷ reply.Done ∷ reply.Atomic 1 ∷ reply.Taken (Batch 1 (plain_terms (event (write1 (codes "b") 1 (codes "x")) ∷ event (write1 (codes "b") 1 (codes "y")) ∷ event (write1 (codes "b") 1 (codes "z")) ∷ event (write1 (codes "b") 1 (codes "x")) ∷ event (three (codes "delete_object") (rec (codes "b") 1 (codes "y"))) ∷ event (three (codes "delete") (pair (atom (codes "b")) (num 2))) ∷ []))) ∷ reply.Empty ∷ []
unfolding outcome canon int_contents
row_bag = refl

pub row_set_detailed : told_in (joins 1 ∷ creates 1 (codes "t") none ∷ call 1 (DoCommand (command.Subscribe (codes "t") Detailed false)) ∷ takes 1 ∷ begins 1 ∷ writes 1 (codes "t") 1 (codes "a") ∷ writes 1 (codes "t") 1 (codes "b") ∷ commits 1 ∷ takes 1 ∷ takes 1 ∷ [])
    ≡ reply.Done ∷ reply.AtomicOk ∷ reply.SubscribedHere ∷ reply.Taken (Began (codes "t") Detailed None) ∷ reply.Tid 1 ∷ reply.Done ∷ reply.Done ∷ reply.Atomic 1 ∷ reply.Taken (Batch 1 (plain_terms (event (detailed_write (codes "t") (rec (codes "t") 1 (codes "a")) none) ∷ event (detailed_write (codes "t") (rec (codes "t") 1 (codes "b")) (one_more (rec (codes "t") 1 (codes "a")) none)) ∷ []))) ∷ reply.Empty ∷ []
unfolding outcome canon int_contents
row_set_detailed = refl

pub row_child_and_absent : told_in (joins 1 ∷ joins 2 ∷ creates 1 (codes "t") none ∷ begins 1 ∷ writes 1 (codes "t") 1 (codes "a") ∷ begins 1 ∷ writes 1 (codes "t") 1 (codes "b") ∷ reads 1 (codes "t") 1 ∷ reads 1 (codes "nosuch") 1 ∷ reads 1 (codes "t") 1 ∷ creates 2 (codes "nosuch") none ∷ commits 1 ∷ creates 2 (codes "nosuch") none ∷ [])
    ≡ reply.Done ∷ reply.Done ∷ reply.AtomicOk ∷ reply.Tid 1 ∷ reply.Done ∷ reply.Tid 1 ∷ reply.Done ∷ reply.Found (plain_terms (rec (codes "t") 1 (codes "b") ∷ [])) ∷ reply.NoTable (codes "nosuch") ∷ reply.Found (plain_terms (rec (codes "t") 1 (codes "a") ∷ [])) ∷ reply.Locked (codes "nosuch") ∷ reply.Atomic 1 ∷ reply.AtomicOk ∷ []
unfolding outcome canon int_contents
row_child_and_absent = refl

pub row_no_overtaking : told_in (joins 1 ∷ joins 2 ∷ joins 3 ∷ creates 1 (codes "t") none ∷ begins 1 ∷ begins 2 ∷ begins 3 ∷ reads 2 (codes "t") 1 ∷ does 1 (op.WriteLockTable (codes "t")) ∷ reads 3 (codes "t") 2 ∷ call 1 (DoCommand (command.Abort (is.Atom (codes "no")))) ∷ call 1 Retry ∷ reads 3 (codes "t") 2 ∷ [])
    ≡ reply.Done ∷ reply.Done ∷ reply.Done ∷ reply.AtomicOk ∷ reply.Tid 1 ∷ reply.Tid 2 ∷ reply.Tid 3 ∷ reply.Found (plain_terms ([])) ∷ reply.Waiting ∷ reply.Restart ∷ reply.UserAbort (is.Atom (codes "no")) ∷ reply.NotWaiting ∷ reply.Found (plain_terms ([])) ∷ []
unfolding outcome canon int_contents
row_no_overtaking = refl

pub row_older_waits : told_in (joins 1 ∷ joins 2 ∷ creates 1 (codes "t") none ∷ begins 1 ∷ begins 2 ∷ reads 2 (codes "t") 5 ∷ writes 1 (codes "t") 5 (codes "a") ∷ reads 1 (codes "t") 6 ∷ call 1 Retry ∷ commits 2 ∷ call 1 Retry ∷ commits 1 ∷ [])
    ≡ reply.Done ∷ reply.Done ∷ reply.AtomicOk ∷ reply.Tid 1 ∷ reply.Tid 2 ∷ reply.Found (plain_terms ([])) ∷ reply.Waiting ∷ reply.WaitingNow ∷ reply.Waiting ∷ reply.Atomic 1 ∷ reply.Done ∷ reply.Atomic 2 ∷ []
unfolding outcome canon int_contents
row_older_waits = refl

pub row_overflow : told_in (joins_with 1 2 ∷ creates 1 (codes "t") none ∷ subscribes 1 (codes "t") ∷ takes 1 ∷ begins 1 ∷ writes 1 (codes "t") 1 (codes "a") ∷ commits 1 ∷ begins 1 ∷ writes 1 (codes "t") 2 (codes "a") ∷ commits 1 ∷ begins 1 ∷ writes 1 (codes "t") 3 (codes "a") ∷ call_over 1 (DoCommand command.Commit) (1 ∷ []) ∷ subscribes 1 (codes "t") ∷ takes 1 ∷ takes 1 ∷ takes 1 ∷ takes 1 ∷ subscribes 1 (codes "t") ∷ takes 1 ∷ [])
    ≡ reply.Done ∷ reply.AtomicOk ∷ reply.SubscribedHere ∷ reply.Taken (Began (codes "t") Simple None) ∷ reply.Tid 1 ∷ reply.Done ∷ reply.Atomic 1 ∷ reply.Tid 2 ∷ reply.Done ∷ reply.Atomic 2 ∷ reply.Tid 3 ∷ reply.Done ∷ reply.Atomic 3 ∷ reply.OverflowUntold ∷ reply.Taken (Batch 1 (plain_terms (event (write_by 1 (codes "t") 1 (codes "a")) ∷ []))) ∷ reply.Taken (Batch 2 (plain_terms (event (write_by 2 (codes "t") 2 (codes "a")) ∷ []))) ∷ reply.Overflow 3 ∷ reply.Empty ∷ reply.SubscribedHere ∷ reply.Taken (Began (codes "t") Simple None) ∷ []
unfolding outcome canon int_contents
row_overflow = refl

pub row_outbox_full : told_in (joins_with 1 1 ∷ creates 1 (codes "t") none ∷ creates 1 (codes "u") none ∷ subscribes 1 (codes "t") ∷ call_over 1 (DoCommand (command.Subscribe (codes "u") Simple false)) (1 ∷ []) ∷ call_over 1 (DoCommand (command.Unsubscribe (codes "t") Simple)) (1 ∷ []) ∷ call_over 1 (DoCommand (command.Schema (Remove (codes "t")))) (1 ∷ []) ∷ takes 1 ∷ takes 1 ∷ takes 1 ∷ [])
    ≡ reply.Done ∷ reply.AtomicOk ∷ reply.AtomicOk ∷ reply.SubscribedHere ∷ reply.OutboxFull ∷ reply.OutboxFull ∷ reply.AtomicOk ∷ reply.Taken (Began (codes "t") Simple None) ∷ reply.Overflow 1 ∷ reply.Empty ∷ []
unfolding outcome canon int_contents
row_outbox_full = refl

-- the post that callers tell of there: two markers and a deletion's marker were refused, and the overflow is then told
abbrev full_run : List Call
full_run = joins_with 1 1 ∷ creates 1 (codes "t") none ∷ creates 1 (codes "u") none ∷ subscribes 1 (codes "t") ∷ call_over 1 (DoCommand (command.Subscribe (codes "u") Simple false)) (1 ∷ []) ∷ call_over 1 (DoCommand (command.Unsubscribe (codes "t") Simple)) (1 ∷ []) ∷ call_over 1 (DoCommand (command.Schema (Remove (codes "t")))) (1 ∷ []) ∷ takes 1 ∷ []

pub row_refusals_counted : (observe_all no_observation full_run (told_in full_run)).posts 1 ≡ record { refusals = 3; overflow = Some 1 }
unfolding outcome canon int_contents
row_refusals_counted = refl

pub row_overflow_told : (observe_all no_observation (full_run ++ takes 1 ∷ []) (told_in (full_run ++ takes 1 ∷ []))).posts 1 ≡ record { refusals = 3; overflow = None }
unfolding outcome canon int_contents
row_overflow_told = refl

pub row_definitions : told_in (joins 1 ∷ creates 1 (codes "t") none ∷ creates 1 (codes "t") none ∷ creates 1 (codes "v") (one_more (pair (atom (codes "type")) (atom (codes "ordered_set"))) none) ∷ creates 1 (codes "v") (one_more (pair (atom (codes "attributes")) (list (one_more (atom (codes "k")) none))) none) ∷ call 1 (DoCommand (command.Schema (Remove (codes "v")))) ∷ [])
    ≡ reply.Done ∷ reply.AtomicOk ∷ reply.AlreadyExists (codes "t") ∷ reply.BadDefinition (codes "v") (is.Tuple (one_more (atom (codes "type")) (one_more (atom (codes "ordered_set")) none))) ∷ reply.BadDefinition (codes "v") (is.Atom (codes "attributes")) ∷ reply.NoTable (codes "v") ∷ []
unfolding outcome canon int_contents
row_definitions = refl

pub row_index : told_in (joins 1 ∷ creates 1 (codes "x") (one_more (pair (atom (codes "attributes")) (list (one_more (atom (codes "k")) (one_more (atom (codes "v")) none)))) (one_more (pair (atom (codes "index")) (list (one_more (atom (codes "v")) none))) none)) ∷ begins 1 ∷ writes 1 (codes "x") 1 (codes "a") ∷ writes 1 (codes "x") 3 (codes "a") ∷ writes 1 (codes "x") 2 (codes "b") ∷ does 1 (op.IndexRead (codes "x") (is.Atom (codes "a")) (is.Atom (codes "v"))) ∷ does 1 (op.MatchObject (is.Tuple (one_more (atom (codes "x")) (one_more (atom (codes "_")) (one_more (atom (codes "a")) none))))) ∷ does 1 (op.IndexRead (codes "x") (is.Atom (codes "a")) (is.Atom (codes "k"))) ∷ commits 1 ∷ [])
    ≡ reply.Done ∷ reply.AtomicOk ∷ reply.Tid 1 ∷ reply.Done ∷ reply.Done ∷ reply.Done ∷ reply.Found (plain_terms (rec (codes "x") 1 (codes "a") ∷ rec (codes "x") 3 (codes "a") ∷ [])) ∷ reply.Found (plain_terms (rec (codes "x") 1 (codes "a") ∷ rec (codes "x") 3 (codes "a") ∷ [])) ∷ reply.NoIndex (codes "x") (is.Atom (codes "k")) ∷ reply.NoTransaction ∷ []
unfolding outcome canon int_contents
row_index = refl

pub row_order : told_in (joins 1 ∷ creates 1 (codes "t") none ∷ begins 1 ∷ writes 1 (codes "t") 300 (codes "a") ∷ does 1 (op.Write (is.Tuple (one_more (atom (codes "t")) (one_more (int (negsuc 0)) (one_more (atom (codes "a")) none))))) ∷ writes 1 (codes "t") 2 (codes "a") ∷ writes 1 (codes "t") 1 (codes "a") ∷ does 1 (op.AllKeys (codes "t")) ∷ [])
    ≡ reply.Done ∷ reply.AtomicOk ∷ reply.Tid 1 ∷ reply.Done ∷ reply.Done ∷ reply.Done ∷ reply.Done ∷ reply.Found (plain_terms (num 1 ∷ num 2 ∷ num 300 ∷ int (negsuc 0) ∷ [])) ∷ []
unfolding outcome canon int_contents
row_order = refl

pub row_dump : told_in (joins 1 ∷ creates 1 (codes "t") none ∷ begins 1 ∷ writes 1 (codes "t") 2 (codes "b") ∷ writes 1 (codes "t") 1 (codes "a") ∷ commits 1
    ∷ call 1 (DoCommand (command.Subscribe (codes "t") Simple true)) ∷ takes 1 ∷ begins 1 ∷ does 1 (op.Delete (codes "t") (is.Int (pos 1))) ∷ writes 1 (codes "t") 3 (codes "c") ∷ commits 1 ∷ takes 1 ∷ [])
    ≡ reply.Done ∷ reply.AtomicOk ∷ reply.Tid 1 ∷ reply.Done ∷ reply.Done ∷ reply.Atomic 1 ∷ reply.SubscribedHere
    ∷ reply.Taken (Began (codes "t") Simple (Some (plain_terms (rec (codes "t") 1 (codes "a") ∷ rec (codes "t") 2 (codes "b") ∷ [])))) ∷ reply.Tid 2 ∷ reply.Done ∷ reply.Done ∷ reply.Atomic 2
    ∷ reply.Taken (Batch 2 (plain_terms (event (triple (atom (codes "delete")) (pair (atom (codes "t")) (num 1)) (tid 2)) ∷ event (write_by 2 (codes "t") 3 (codes "c")) ∷ []))) ∷ []
unfolding outcome canon int_contents
row_dump = refl

-- x: attributes k and v, an index on v
abbrev indexed_table : PlainTerms
indexed_table = one_more (pair (atom (codes "attributes")) (list (one_more (atom (codes "k")) (one_more (atom (codes "v")) none)))) (one_more (pair (atom (codes "index")) (list (one_more (atom (codes "v")) none))) none)

abbrev reads_by_v : ℕ → Call
reads_by_v n = does n (op.IndexRead (codes "x") (is.Atom (codes "q")) (is.Atom (codes "v")))

-- a phantom: what an index_read didn't find is locked too; the younger writer dies, the older waits
pub row_phantom : told_in (joins 1 ∷ joins 2 ∷ creates 1 (codes "x") indexed_table ∷ begins 1 ∷ begins 2 ∷ reads_by_v 1 ∷ writes 2 (codes "x") 9 (codes "q") ∷ commits 1 ∷ writes 2 (codes "x") 9 (codes "q") ∷ begins 1 ∷ commits 2 ∷ [])
    ≡ reply.Done ∷ reply.Done ∷ reply.AtomicOk ∷ reply.Tid 1 ∷ reply.Tid 2 ∷ reply.Found none ∷ reply.Restart ∷ reply.Atomic 1 ∷ reply.Done ∷ reply.Tid 3 ∷ reply.Atomic 2 ∷ []
unfolding outcome canon int_contents
row_phantom = refl

pub row_phantom_older : told_in (joins 1 ∷ joins 2 ∷ creates 1 (codes "x") indexed_table ∷ begins 1 ∷ begins 2 ∷ reads_by_v 2 ∷ writes 1 (codes "x") 9 (codes "q") ∷ commits 2 ∷ call 1 Retry ∷ commits 1 ∷ [])
    ≡ reply.Done ∷ reply.Done ∷ reply.AtomicOk ∷ reply.Tid 1 ∷ reply.Tid 2 ∷ reply.Found none ∷ reply.Waiting ∷ reply.Atomic 1 ∷ reply.Done ∷ reply.Atomic 2 ∷ []
unfolding outcome canon int_contents
row_phantom_older = refl

-- two that read one record and then write it
pub row_two_upgrades : told_in (joins 1 ∷ joins 2 ∷ creates 1 (codes "t") none ∷ begins 1 ∷ begins 2 ∷ reads 1 (codes "t") 5 ∷ reads 2 (codes "t") 5 ∷ writes 1 (codes "t") 5 (codes "a") ∷ writes 2 (codes "t") 5 (codes "b") ∷ call 1 Retry ∷ commits 1 ∷ reads 2 (codes "t") 5 ∷ [])
    ≡ reply.Done ∷ reply.Done ∷ reply.AtomicOk ∷ reply.Tid 1 ∷ reply.Tid 2 ∷ reply.Found none ∷ reply.Found none ∷ reply.Waiting ∷ reply.Restart ∷ reply.Done ∷ reply.Atomic 1 ∷ reply.Found (plain_terms (rec (codes "t") 5 (codes "a") ∷ [])) ∷ []
unfolding outcome canon int_contents
row_two_upgrades = refl

-- the younger dies and keeps its age: its event has it, and the next begin is of age 3
pub row_younger_dies : told_in (joins 1 ∷ joins 2 ∷ joins 3 ∷ creates 1 (codes "t") none ∷ subscribes 3 (codes "t") ∷ takes 3 ∷ begins 1 ∷ begins 2 ∷ writes 1 (codes "t") 5 (codes "a") ∷ reads 2 (codes "t") 5 ∷ commits 1 ∷ writes 2 (codes "t") 6 (codes "c") ∷ begins 3 ∷ commits 2 ∷ takes 3 ∷ takes 3 ∷ [])
    ≡ reply.Done ∷ reply.Done ∷ reply.Done ∷ reply.AtomicOk ∷ reply.SubscribedHere ∷ reply.Taken (Began (codes "t") Simple None) ∷ reply.Tid 1 ∷ reply.Tid 2 ∷ reply.Done ∷ reply.Restart ∷ reply.Atomic 1 ∷ reply.Done ∷ reply.Tid 3 ∷ reply.Atomic 2
    ∷ reply.Taken (Batch 1 (plain_terms (event (write_by 1 (codes "t") 5 (codes "a")) ∷ []))) ∷ reply.Taken (Batch 2 (plain_terms (event (write_by 2 (codes "t") 6 (codes "c")) ∷ []))) ∷ []
unfolding outcome canon int_contents
row_younger_dies = refl

-- subscribing inside a transaction: what stands at the commit counts, so its own earlier write is told
pub row_own_commit : told_in (joins 1 ∷ creates 1 (codes "t") none ∷ begins 1 ∷ writes 1 (codes "t") 1 (codes "a") ∷ subscribes 1 (codes "t") ∷ subscribes 1 (codes "t") ∷ commits 1 ∷ takes 1 ∷ takes 1 ∷ takes 1 ∷ [])
    ≡ reply.Done ∷ reply.AtomicOk ∷ reply.Tid 1 ∷ reply.Done ∷ reply.SubscribedHere ∷ reply.AlreadySubscribed (codes "t") ∷ reply.Atomic 1 ∷ reply.Taken (Began (codes "t") Simple None) ∷ reply.Taken (Batch 1 (plain_terms (event (write1 (codes "t") 1 (codes "a")) ∷ []))) ∷ reply.Empty ∷ []
unfolding outcome canon int_contents
row_own_commit = refl

-- two tables: a batch has the events of both in the order of the updates; a deletion ends the one, and the other goes on
pub row_two_tables : told_in (joins 1 ∷ creates 1 (codes "t") none ∷ creates 1 (codes "u") none ∷ subscribes 1 (codes "t") ∷ subscribes 1 (codes "u") ∷ takes 1 ∷ takes 1 ∷ begins 1 ∷ writes 1 (codes "t") 1 (codes "a") ∷ writes 1 (codes "u") 1 (codes "b") ∷ writes 1 (codes "t") 2 (codes "c") ∷ commits 1
    ∷ call 1 (DoCommand (command.Schema (Remove (codes "u")))) ∷ begins 1 ∷ writes 1 (codes "t") 3 (codes "d") ∷ commits 1 ∷ call 1 (DoCommand (command.Unsubscribe (codes "t") Simple)) ∷ takes 1 ∷ takes 1 ∷ takes 1 ∷ takes 1 ∷ takes 1 ∷ [])
    ≡ reply.Done ∷ reply.AtomicOk ∷ reply.AtomicOk ∷ reply.SubscribedHere ∷ reply.SubscribedHere ∷ reply.Taken (Began (codes "t") Simple None) ∷ reply.Taken (Began (codes "u") Simple None) ∷ reply.Tid 1 ∷ reply.Done ∷ reply.Done ∷ reply.Done ∷ reply.Atomic 1
    ∷ reply.AtomicOk ∷ reply.Tid 2 ∷ reply.Done ∷ reply.Atomic 2 ∷ reply.SubscribedHere
    ∷ reply.Taken (Batch 1 (plain_terms (event (write1 (codes "t") 1 (codes "a")) ∷ event (write1 (codes "u") 1 (codes "b")) ∷ event (write1 (codes "t") 2 (codes "c")) ∷ [])))
    ∷ reply.Taken (Ended (codes "u") ending.Deleted) ∷ reply.Taken (Batch 2 (plain_terms (event (write_by 2 (codes "t") 3 (codes "d")) ∷ []))) ∷ reply.Taken (Ended (codes "t") ending.Unsubscribed) ∷ reply.Empty ∷ []
unfolding outcome canon int_contents
row_two_tables = refl

-- options: a bad one goes before all else, then the attributes, then the indexes; a repeated index entry is one index
abbrev attributes_are : PlainTerm → PlainTerm
attributes_are x = pair (atom (codes "attributes")) x

abbrev indexes_are : PlainTerm → PlainTerm
indexes_are x = pair (atom (codes "index")) x

abbrev kind_is : List ℕ → PlainTerm
kind_is k = pair (atom (codes "type")) (atom k)

abbrev options : List PlainTerm → PlainTerms
options os = plain_terms os

abbrev word : List ℕ → PlainTerm
word n = atom n

abbrev words : List PlainTerm → PlainTerm
words ts = list (plain_terms ts)

pub row_options : told_in (joins 1
    ∷ creates 1 (codes "v") (options (attributes_are (num 1) ∷ indexes_are (num 1) ∷ kind_is (codes "bag") ∷ kind_is (codes "set") ∷ []))
    ∷ creates 1 (codes "v") (options (indexes_are (num 1) ∷ attributes_are (words (word (codes "k") ∷ word (codes "k") ∷ [])) ∷ []))
    ∷ creates 1 (codes "v") (options (indexes_are (num 1) ∷ []))
    ∷ creates 1 (codes "v") (options (indexes_are (words (word (codes "val") ∷ word (codes "key") ∷ [])) ∷ []))
    ∷ creates 1 (codes "v") (options (indexes_are (words (num 2 ∷ [])) ∷ []))
    ∷ creates 1 (codes "v") (options (pair (atom (codes "record_name")) (atom (codes "w")) ∷ []))
    ∷ creates 1 (codes "v") (options (indexes_are (words (num 3 ∷ word (codes "val") ∷ [])) ∷ pair (atom (codes "record_name")) (atom (codes "v")) ∷ pair (atom (codes "ram_copies")) (words []) ∷ []))
    ∷ call 1 (DoCommand (command.TableInfo (codes "v") item.Index)) ∷ call 1 (DoCommand (command.TableInfo (codes "v") item.Attributes)) ∷ call 1 (DoCommand (command.TableInfo (codes "v") item.Kind)) ∷ call 1 (DoCommand (command.TableInfo (codes "v") item.Size)) ∷ call 1 (DoCommand (command.TableInfo (codes "w") item.Size)) ∷ [])
    ≡ reply.Done
    ∷ reply.BadDefinition (codes "v") (term_value (kind_is (codes "set")))
    ∷ reply.BadDefinition (codes "v") (term_value (word (codes "attributes")))
    ∷ reply.BadDefinition (codes "v") (term_value (indexes_are (num 1)))
    ∷ reply.BadDefinition (codes "v") (term_value (indexes_are (word (codes "key"))))
    ∷ reply.BadDefinition (codes "v") (term_value (indexes_are (num 2)))
    ∷ reply.BadDefinition (codes "v") (term_value (pair (atom (codes "record_name")) (atom (codes "w"))))
    ∷ reply.AtomicOk
    ∷ reply.TableInfo (info.Index (numbers (3 ∷ []))) ∷ reply.TableInfo (info.Attributes (names (codes "key" ∷ codes "val" ∷ []))) ∷ reply.TableInfo (info.Kind Set) ∷ reply.TableInfo (info.Size 0) ∷ reply.UnknownTable (codes "w") ∷ []
unfolding outcome canon int_contents
row_options = refl

-- limits: three operations and child begins, two levels, one table, one age, two sessions
abbrev small : Limits
small = record { sessions = 2; nesting = 2; operations = 3; tables = 1; ages = 2; journal = 16; journal_bytes = 67108864 }

pub row_limits : replies_of (new small) (joins 1 ∷ joins 2 ∷ joins 3 ∷ creates 1 (codes "t") none ∷ creates 1 (codes "u") none ∷ begins 1 ∷ begins 1 ∷ begins 1 ∷ commits 1 ∷ reads 1 (codes "t") 1 ∷ reads 1 (codes "t") 2 ∷ begins 1 ∷ reads 1 (codes "t") 3 ∷ commits 1 ∷ begins 2 ∷ begins 1 ∷ [])
    ≡ reply.Done ∷ reply.Done ∷ reply.SystemLimit limit.Sessions ∷ reply.AtomicOk ∷ reply.SystemLimit limit.Tables ∷ reply.Tid 1 ∷ reply.Tid 1 ∷ reply.SystemLimit limit.Nesting ∷ reply.AtomicOk ∷ reply.Found none ∷ reply.Found none ∷ reply.SystemLimit limit.Operations ∷ reply.SystemLimit limit.Operations ∷ reply.Atomic 1 ∷ reply.Tid 2 ∷ reply.SystemLimit limit.Ages ∷ []
unfolding outcome canon int_contents
row_limits = refl

-- where both are used up, nesting is told
pub row_both_limits : replies_of (new small) (joins 1 ∷ creates 1 (codes "t") none ∷ begins 1 ∷ begins 1 ∷ reads 1 (codes "t") 1 ∷ reads 1 (codes "t") 2 ∷ reads 1 (codes "t") 3 ∷ begins 1 ∷ [])
    ≡ reply.Done ∷ reply.AtomicOk ∷ reply.Tid 1 ∷ reply.Tid 1 ∷ reply.Found none ∷ reply.Found none ∷ reply.SystemLimit limit.Operations ∷ reply.SystemLimit limit.Nesting ∷ []
unfolding outcome canon int_contents
row_both_limits = refl

-- each command of a session that waits, and its other steps; an abort is taken, and the request is gone
pub row_waiting_session : told_in (joins 1 ∷ joins 2 ∷ creates 1 (codes "t") none ∷ begins 1 ∷ begins 2 ∷ reads 2 (codes "t") 5 ∷ writes 1 (codes "t") 5 (codes "a")
    ∷ creates 1 (codes "u") none ∷ call 1 (DoCommand (command.TableInfo (codes "t") item.Size)) ∷ begins 1 ∷ commits 1 ∷ reads 1 (codes "t") 6 ∷ subscribes 1 (codes "t") ∷ call 1 (DoCommand (command.Unsubscribe (codes "t") Simple)) ∷ call 1 (DoCommand (command.OneShot [] 0))
    ∷ joins 1 ∷ takes 1 ∷ call 1 Retry ∷ call 1 (DoCommand (command.Abort (is.Atom (codes "no")))) ∷ call 1 Retry ∷ begins 1 ∷ [])
    ≡ reply.Done ∷ reply.Done ∷ reply.AtomicOk ∷ reply.Tid 1 ∷ reply.Tid 2 ∷ reply.Found none ∷ reply.Waiting
    ∷ reply.WaitingNow ∷ reply.WaitingNow ∷ reply.WaitingNow ∷ reply.WaitingNow ∷ reply.WaitingNow ∷ reply.WaitingNow ∷ reply.WaitingNow ∷ reply.WaitingNow
    ∷ reply.BadSession ∷ reply.Empty ∷ reply.Waiting ∷ reply.UserAbort (is.Atom (codes "no")) ∷ reply.NotWaiting ∷ reply.Tid 3 ∷ []
unfolding outcome canon int_contents
row_waiting_session = refl

-- refusals outside a transaction, and of sessions that have not joined or join again
pub row_refusals : told_in (joins 2 ∷ creates 2 (codes "t") none ∷ reads 2 (codes "t") 1 ∷ commits 2 ∷ call 2 Retry ∷ begins 9 ∷ joins 2 ∷ joins 1 ∷ call 2 Leave ∷ call 2 Leave ∷ joins 2 ∷ joins 3 ∷ begins 3 ∷ creates 3 (codes "u") none ∷ call 3 (DoCommand (command.Unsubscribe (codes "t") Simple)) ∷ subscribes 3 (codes "v") ∷ [])
    ≡ reply.Done ∷ reply.AtomicOk ∷ reply.NoTransaction ∷ reply.NoTransaction ∷ reply.NotWaiting ∷ reply.BadSession ∷ reply.BadSession ∷ reply.BadSession ∷ reply.Done ∷ reply.BadSession ∷ reply.BadSession ∷ reply.Done ∷ reply.Tid 1 ∷ reply.InTransaction ∷ reply.NotSubscribed (codes "t") ∷ reply.UnknownTable (codes "v") ∷ []
unfolding outcome canon int_contents
row_refusals = refl

-- an index is added and taken away; writes of another table's form end the level
pub row_schema : told_in (joins 1 ∷ creates 1 (codes "t") none
    ∷ call 1 (DoCommand (command.Schema (AddIndex (codes "t") (is.Atom (codes "key"))))) ∷ call 1 (DoCommand (command.Schema (DelIndex (codes "t") (is.Atom (codes "val")))))
    ∷ call 1 (DoCommand (command.Schema (AddIndex (codes "t") (is.Atom (codes "val"))))) ∷ call 1 (DoCommand (command.Schema (AddIndex (codes "t") (is.Int (pos 3)))))
    ∷ begins 1 ∷ writes 1 (codes "t") 1 (codes "a") ∷ does 1 (op.IndexRead (codes "t") (is.Atom (codes "a")) (is.Int (pos 3)))
    ∷ begins 1 ∷ does 1 (op.Write (is.Tuple (one_more (atom (codes "t")) (one_more (num 1) none)))) ∷ reads 1 (codes "t") 1 ∷ does 1 (op.ReadForWrite (codes "t") (is.Int (pos 2))) ∷ does 1 (op.ReadLockTable (codes "t")) ∷ commits 1
    ∷ call 1 (DoCommand (command.Schema (DelIndex (codes "t") (is.Atom (codes "val"))))) ∷ [])
    ≡ reply.Done ∷ reply.AtomicOk ∷ reply.BadDefinition (codes "t") (term_value (indexes_are (word (codes "key")))) ∷ reply.NoIndex (codes "t") (is.Atom (codes "val")) ∷ reply.AtomicOk ∷ reply.BadDefinition (codes "t") (term_value (indexes_are (num 3)))
    ∷ reply.Tid 1 ∷ reply.Done ∷ reply.Found (plain_terms (rec (codes "t") 1 (codes "a") ∷ [])) ∷ reply.Tid 1 ∷ reply.BadType (codes "t") (is.Tuple (one_more (atom (codes "t")) (one_more (num 1) none)))
    ∷ reply.Found (plain_terms (rec (codes "t") 1 (codes "a") ∷ [])) ∷ reply.Found none ∷ reply.Done ∷ reply.Atomic 1 ∷ reply.AtomicOk ∷ []
unfolding outcome canon int_contents
row_schema = refl

-- of two indexes one is taken away, and the other answers
abbrev two_indexes : PlainTerms
two_indexes = options (attributes_are (words (word (codes "k") ∷ word (codes "v") ∷ word (codes "w") ∷ [])) ∷ indexes_are (words (word (codes "v") ∷ word (codes "w") ∷ [])) ∷ [])

abbrev row_of_two : PlainTerms
row_of_two = plain_terms (word (codes "x") ∷ num 1 ∷ word (codes "a") ∷ word (codes "b") ∷ [])

pub row_other_index : told_in (joins 1 ∷ creates 1 (codes "x") two_indexes ∷ call 1 (DoCommand (command.Schema (DelIndex (codes "x") (is.Atom (codes "v"))))) ∷ call 1 (DoCommand (command.TableInfo (codes "x") item.Index))
    ∷ begins 1 ∷ does 1 (op.Write (is.Tuple row_of_two)) ∷ does 1 (op.IndexRead (codes "x") (is.Atom (codes "b")) (is.Atom (codes "w"))) ∷ does 1 (op.IndexRead (codes "x") (is.Atom (codes "a")) (is.Atom (codes "v"))) ∷ [])
    ≡ reply.Done ∷ reply.AtomicOk ∷ reply.AtomicOk ∷ reply.TableInfo (info.Index (numbers (4 ∷ [])))
    ∷ reply.Tid 1 ∷ reply.Done ∷ reply.Found (plain_terms (tuple row_of_two ∷ [])) ∷ reply.NoIndex (codes "x") (is.Atom (codes "v")) ∷ []
unfolding outcome canon int_contents
row_other_index = refl

-- terms that are no events: age 0, another table, a record of arity 2, another tag, a detailed delete_object's own tag
pub no_age : change_of (event (triple (atom (codes "write")) (rec (codes "t") 1 (codes "a")) (tid 0))) ≡ None
no_age = refl

pub other_table : change_of (event (five (atom (codes "write")) (atom (codes "u")) (rec (codes "t") 1 (codes "a")) (list none) (tid 1))) ≡ None
other_table = refl

pub short_record : change_of (event (triple (atom (codes "write")) (pair (atom (codes "t")) (num 1)) (tid 1))) ≡ None
short_record = refl

pub other_tag : change_of (pair (atom (codes "mnesia_system_event")) (triple (atom (codes "write")) (rec (codes "t") 1 (codes "a")) (tid 1))) ≡ None
other_tag = refl

pub detailed_tag : change_of (event (five (atom (codes "delete_object")) (atom (codes "t")) (rec (codes "t") 1 (codes "a")) (list none) (tid 1))) ≡ None
detailed_tag = refl

pub record_deleted : change_of (event (five (atom (codes "delete")) (atom (codes "t")) (rec (codes "t") 1 (codes "a")) (list none) (tid 7))) ≡ Some (change.DeleteObject (term_value (rec (codes "t") 1 (codes "a"))))
record_deleted = refl

pub key_deleted : change_of (event (triple (atom (codes "delete")) (pair (atom (codes "t")) (num 2)) (tid 1))) ≡ Some (change.Delete (codes "t") (is.Int (pos 2)))
key_deleted = refl

-- a restarted transaction keeps its age, as the reply to a child's begin tells it
pub row_restart_keeps_age : told_in (joins 1 ∷ joins 2 ∷ creates 1 (codes "t") none ∷ begins 1 ∷ begins 2 ∷ writes 1 (codes "t") 5 (codes "a") ∷ reads 2 (codes "t") 5 ∷ begins 2 ∷ [])
    ≡ reply.Done ∷ reply.Done ∷ reply.AtomicOk ∷ reply.Tid 1 ∷ reply.Tid 2 ∷ reply.Done ∷ reply.Restart ∷ reply.Tid 2 ∷ []
unfolding outcome canon int_contents
row_restart_keeps_age = refl

-- an aborted child's write has no event
pub row_aborted_child : told_in (joins 1 ∷ creates 1 (codes "t") none ∷ subscribes 1 (codes "t") ∷ takes 1 ∷ begins 1 ∷ writes 1 (codes "t") 1 (codes "a") ∷ begins 1 ∷ writes 1 (codes "t") 1 (codes "b") ∷ call 1 (DoCommand (command.Abort (is.Atom (codes "why")))) ∷ commits 1 ∷ takes 1 ∷ takes 1 ∷ [])
    ≡ reply.Done ∷ reply.AtomicOk ∷ reply.SubscribedHere ∷ reply.Taken (Began (codes "t") Simple None) ∷ reply.Tid 1 ∷ reply.Done ∷ reply.Tid 1 ∷ reply.Done ∷ reply.UserAbort (is.Atom (codes "why")) ∷ reply.Atomic 1 ∷ reply.Taken (Batch 1 (plain_terms (event (write1 (codes "t") 1 (codes "a")) ∷ []))) ∷ reply.Empty ∷ []
unfolding outcome canon int_contents
row_aborted_child = refl

-- a child that a failing operation ends: its write has no event and isn't in the table
pub row_failed_child : told_in (joins 1 ∷ creates 1 (codes "t") none ∷ subscribes 1 (codes "t") ∷ takes 1 ∷ begins 1 ∷ writes 1 (codes "t") 1 (codes "a") ∷ begins 1 ∷ writes 1 (codes "t") 2 (codes "b") ∷ reads 1 (codes "nosuch") 1 ∷ commits 1 ∷ takes 1 ∷ takes 1 ∷ begins 1 ∷ reads 1 (codes "t") 2 ∷ reads 1 (codes "t") 1 ∷ [])
    ≡ reply.Done ∷ reply.AtomicOk ∷ reply.SubscribedHere ∷ reply.Taken (Began (codes "t") Simple None) ∷ reply.Tid 1 ∷ reply.Done ∷ reply.Tid 1 ∷ reply.Done ∷ reply.NoTable (codes "nosuch") ∷ reply.Atomic 1 ∷ reply.Taken (Batch 1 (plain_terms (event (write1 (codes "t") 1 (codes "a")) ∷ []))) ∷ reply.Empty ∷ reply.Tid 2 ∷ reply.Found none ∷ reply.Found (plain_terms (rec (codes "t") 1 (codes "a") ∷ [])) ∷ []
unfolding outcome canon int_contents
row_failed_child = refl

-- a table's deletion ends the subscriptions to it, and to no other
pub row_deletion_ends : in_force 1 (Subscribed 1 (codes "t") Simple false ∷ Subscribed 1 (codes "u") Detailed false ∷ Changed (Remove (codes "t")) [] ∷ []) (codes "t") ≡ None
row_deletion_ends = refl

pub row_deletion_leaves : in_force 1 (Subscribed 1 (codes "t") Simple false ∷ Subscribed 1 (codes "u") Detailed false ∷ Changed (Remove (codes "t")) [] ∷ []) (codes "u") ≡ Some Detailed
row_deletion_leaves = refl
