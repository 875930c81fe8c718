-- The answers of operations, case by case.
use Rattle.std.proofs.Common.{ℕ, List, Bool, true, false, Option, Some, None}
use Rattle.std.specs.Prelude.{if◌then◌else◌}
use Rattle.tab_term.specs.Data.{PlainTerms}
use Rattle.tab_term.specs.View.{term}
use Rattle.tab_term.specs.declared.term.Term.{Term}
use Rattle.tab_model.specs.declared.data.Operation.{Operation}
use Rattle.tab_model.specs.declared.data.Operation.TheVariants as op
use Rattle.tab_model.specs.declared.data.Reply.{Reply}
use Rattle.tab_model.specs.declared.data.Reply.TheVariants as reply
use Rattle.tab_model.specs.Definitions.{fits_def, is_indexed, position}
use Rattle.tab_model.specs.Catalogs.{Table}
use Rattle.tab_model.specs.Operations.{failure_in, answer_at, answer_or}

-- a property of an operation's failure and its reply that holds of each kind of answer
pub record HoldsOfAnswers (P : Option Reply → Reply → Type 0) : Type 0 where
  pub no_table : (t : List ℕ) → P (Some (reply.NoTable t)) (reply.NoTable t)
  pub bad_type : (t : List ℕ) (r : Term) → P (Some (reply.BadType t r)) (reply.BadType t r)
  pub no_index : (t : List ℕ) (a : Term) → P (Some (reply.NoIndex t a)) (reply.NoIndex t a)
  pub found : (rs : PlainTerms) → P None (reply.Found rs)
  pub done : P None reply.Done

-- a test decides whether the operation fails
unless : (P : Option Reply → Reply → Type 0) (t : Table) (o : Operation) (b : Bool) (r : Reply) → P (Some r) r → P None (answer_at t o) → P (if b then None else Some r) (answer_or (if b then None else Some r) (Some t) o)
unless P t o true r f g = g
unless P t o false r f g = f

-- holds of each operation's
pub answers : (P : Option Reply → Reply → Type 0) → HoldsOfAnswers P → (x : Option Table) (o : Operation) → P (failure_in x o) (answer_or (failure_in x o) x o)
answers P h None o = h.no_table _
answers P h (Some t) (op.Read n k) = h.found _
answers P h (Some t) (op.ReadForWrite n k) = h.found _
answers P h (Some t) (op.Write r) = unless P t (op.Write r) (fits_def t.def (term r)) (reply.BadType (t.def).name r) (h.bad_type _ r) h.done
answers P h (Some t) (op.Delete n k) = h.done
answers P h (Some t) (op.DeleteObject r) = unless P t (op.DeleteObject r) (fits_def t.def (term r)) (reply.BadType (t.def).name r) (h.bad_type _ r) h.done
answers P h (Some t) (op.IndexRead n x a) = unless P t (op.IndexRead n x a) (is_indexed t.def (position t.def (term a))) (reply.NoIndex n a) (h.no_index n a) (h.found _)
answers P h (Some t) (op.MatchObject p) = unless P t (op.MatchObject p) (fits_def t.def (term p)) (reply.BadType (t.def).name p) (h.bad_type _ p) (h.found _)
answers P h (Some t) (op.AllKeys n) = h.found _
answers P h (Some t) (op.ReadLockTable n) = h.done
answers P h (Some t) (op.WriteLockTable n) = h.done
