-- What becomes of a session's transaction and of its locks.
use Rattle.std.specs.Prelude.{◌≡◌, ℕ, suc, [], Bool, true, false, ◌&&◌, ◌==◌, nat_lt, Option, None, Some, length, option_map}
use Rattle.tab_model.specs.declared.data.Operation.{Operation}
use Rattle.tab_model.specs.declared.data.Move.TheVariants.{Do, Open, Close, Undo}
use Rattle.tab_model.specs.declared.data.Limits.{Limits}
use Rattle.tab_model.specs.declared.data.Limit.TheVariants as limit
use Rattle.tab_model.specs.declared.data.Entry.TheVariants as entry
use Rattle.tab_model.specs.declared.data.Reply.TheVariants as reply
use Rattle.tab_model.specs.declared.data.Reply.{Reply}
use Rattle.tab_model.specs.Ages.{Ages, forget, without}
use Rattle.tab_model.specs.State.{count_moves}
use Rattle.tab_model.specs.Alone.{start, after, replies}
use Rattle.tab_model.specs.Events.{is_failure}
use Rattle.tab_model.specs.Operations.{table_of, answer}
use Rattle.tab_model.specs.Catalogs.{Catalog, find, IsOrderedCatalog}
use Rattle.tab_txstore.specs.Stores.{Store, no_store, store_next, Fits}
use Rattle.tab_core.specs.declared.transaction.Transaction as kept
use Rattle.tab_core.specs.declared.operating.Worked.{Worked}
use Rattle.tab_core.specs.declared.step.Stepped.{Stepped}

-- the transaction, of the same age, with this private store
abbrev pub with_store : kept.Transaction → Store → kept.Transaction
with_store t s = record { age = t.age; store = s }

-- the transaction, if there is one, starts anew with the age that it has
abbrev pub restarted : Option kept.Transaction → Option kept.Transaction
restarted t = option_map (λ t. with_store t no_store) t

-- the locks and requests without those of this transaction, if there is one
abbrev pub forgotten_if : Ages → Option kept.Transaction → Ages
forgotten_if g None = g
forgotten_if g (Some t) = forget g t.age

-- an operation that was made: its reply, as its transaction alone is told it, and whether that ended the transaction
pub record Works (w : Catalog) (t : kept.Transaction) (o : Operation) (x : Worked) (new : kept.Transaction) : Type 0 where
  pub store : new ≡ with_store t (store_next (find w (table_of o)) t.store (Do o) (Some x.reply))
  pub answer : (age : ℕ) → IsOrderedCatalog w → Fits t.store w → replies (start w age) t.store.moves ≡ t.store.told → x.reply ≡ answer (after (start w age) t.store.moves).now o
  pub over : x.over ≡ ((length t.store.levels.saved == 0) && is_failure (Some x.reply))

-- a child's begin, by whether a level is left and whether a move is: done, or refused with nothing changed
abbrev pub NestsIf : kept.Transaction → Bool → Bool → kept.Transaction → Reply → Type 0
NestsIf t true true new r = (new ≡ with_store t (store_next None t.store Open (Some (reply.Tid t.age)))) × (r ≡ reply.Tid t.age)
NestsIf t true false new r = (new ≡ t) × (r ≡ reply.SystemLimit limit.Operations)
NestsIf t false room new r = (new ≡ t) × (r ≡ reply.SystemLimit limit.Nesting)

-- an operation that was made, whose transaction is still in its place
abbrev pub WorksTo : Catalog → kept.Transaction → Operation → Worked → Option kept.Transaction → Type 0
WorksTo w t o x None = ⊥
WorksTo w t o x (Some new) = Works w t o x new

-- a child's begin (the order of the limits is this project's own rule)
abbrev pub Nests : Limits → kept.Transaction → kept.Transaction → Reply → Type 0
Nests ls t new r = NestsIf t (nat_lt (suc (length t.store.levels.saved)) ls.nesting) (nat_lt (count_moves t.store.moves) ls.operations) new r

-- whether the limits let a child begin
abbrev pub has_level : Limits → kept.Transaction → Bool
has_level ls t = nat_lt (suc (length t.store.levels.saved)) ls.nesting && nat_lt (count_moves t.store.moves) ls.operations

-- a child's begin, whose transaction is still in its place
abbrev pub NestsTo : Limits → kept.Transaction → Option kept.Transaction → Reply → Type 0
NestsTo ls t None r = ⊥
NestsTo ls t (Some new) r = Nests ls t new r

-- a child's commit
abbrev pub joined : Option kept.Transaction → Option kept.Transaction
joined t = option_map (λ t. with_store t (store_next None t.store Close (Some reply.AtomicOk))) t

-- a child's abort
abbrev pub undone : kept.Transaction → kept.Transaction
undone t = with_store t (store_next None t.store Undo None)

-- an abort: of the whole, or of a child
abbrev pub UndoesIf : Bool → kept.Transaction → Ages → Option kept.Transaction → Ages → Type 0
UndoesIf true t g new g' = (new ≡ None) × (g'.held ≡ without t.age g.held) × (g'.queue ≡ without t.age (without t.age g.queue))
UndoesIf false t g new g' = (new ≡ Some (undone t)) × (g' ≡ record { held = g.held; queue = without t.age g.queue })

-- an abort of the innermost level: of the whole where no child is open
abbrev pub Undoes : kept.Transaction → Ages → Option kept.Transaction → Ages → Type 0
Undoes t g new g' = UndoesIf (length t.store.levels.saved == 0) t g new g'

-- the reply and the entry of an outermost commit in which no post refused
abbrev pub committed : ℕ → ℕ → kept.Transaction → Stepped
committed number session t = record { reply = reply.Atomic number; entry = Some (entry.Committed number session t.age t.store.moves t.store.told []) }
