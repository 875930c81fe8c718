-- The answer on a committed table, with what the transaction left there, is that on the tables as the transaction sees them.
use Rattle.std.proofs.Common.{◌≡◌, ℕ, refl, sym, ap, ◌∙◌, subst, Option, Some, None}
use Rattle.std.specs.Prelude.{option_map}
use Rattle.tab_term.specs.declared.term.Term.{Term}
use Rattle.tab_model.specs.declared.data.Operation.{Operation}
use Rattle.tab_model.specs.declared.data.Operation.TheVariants as op
use Rattle.tab_model.specs.declared.data.Reply.{Reply}
use Rattle.tab_model.specs.declared.data.Reply.TheVariants as reply
use Rattle.tab_model.specs.declared.data.TableDef.{TableDef}
use Rattle.tab_model.specs.Alone.{start, after, replies}
use Rattle.tab_model.specs.Operations.{table_of, answer, answer_or, bad_type, failure_in}
use Rattle.tab_model.specs.Catalogs.{Catalog, Table, find, rows_in, with_rows, IsOrderedCatalog}
use Rattle.tab_model.proofs.RepliesStay.{find_name}
use Rattle.tab_txstore.specs.Merged.{IsSeen}
use Rattle.tab_txstore.specs.Overlays.{Touched, touched}
use Rattle.tab_txstore.specs.Stores.{Store, Fits}
use Rattle.tab_txstore.proofs.FitsLemmas.{table_shown, defs_shown}
use Rattle.tab_txstore.specs.Answers.{Answers, replied}

some_same : {A : Type 0} (a b : A) → Some a ≡ Some b → a ≡ b
some_same a b h = cc

-- whether a record fits, the definition says alone
pub written : (xs : Touched) (committed : Table) (row : Term) (r : Reply) → r ≡ replied committed (op.Write row) → Answers xs committed (op.Write row) r
written xs committed row r h seen i = h ∙ whatever (bad_type committed.def row)
  where
    whatever : (f : Option Reply) → answer_or f (Some committed) (op.Write row) ≡ answer_or f (Some (with_rows committed seen)) (op.Write row)
    whatever None = refl
    whatever (Some x) = refl

pub object_deleted : (xs : Touched) (committed : Table) (row : Term) (r : Reply) → r ≡ replied committed (op.DeleteObject row) → Answers xs committed (op.DeleteObject row) r
object_deleted xs committed row r h seen i = h ∙ whatever (bad_type committed.def row)
  where
    whatever : (f : Option Reply) → answer_or f (Some committed) (op.DeleteObject row) ≡ answer_or f (Some (with_rows committed seen)) (op.DeleteObject row)
    whatever None = refl
    whatever (Some x) = refl

module _ (w : Catalog) (ordered : IsOrderedCatalog w) (s : Store) (age : ℕ) (fits : Fits s w) (told : replies (start w age) s.moves ≡ s.told) where
  pub answer_shown : (o : Operation) (committed : Table) (r : Reply) → find w (table_of o) ≡ Some committed → Answers (touched s.levels.now.overlay committed.def.name) committed o r → r ≡ answer (after (start w age) s.moves).now o
  answer_shown o committed r there h =
      cases (find (after (start w age) s.moves).now (table_of o)) (defs_shown w ordered age s.moves (table_of o) ∙ ap (option_map (λ (x : Table). x.def)) there)
      (subst (λ n. IsSeen (touched s.levels.now.overlay n) committed.rows (rows_in (find (after (start w age) s.moves).now (table_of o)))) (sym (find_name w (table_of o) committed there)) (table_shown w ordered s age (table_of o) committed fits told there))
    where
      cases : (y : Option Table) → option_map (λ (x : Table). x.def) y ≡ Some committed.def → IsSeen (touched s.levels.now.overlay committed.def.name) committed.rows (rows_in y) → r ≡ answer_or (failure_in y o) y o
      cases None e i = cc
      cases (Some y) e i = h y.rows i ∙ ap (λ (d : TableDef). replied (record { def = d; rows = y.rows }) o) (sym (some_same y.def committed.def e))

  pub absence_shown : (o : Operation) → find w (table_of o) ≡ None → reply.NoTable (table_of o) ≡ answer (after (start w age) s.moves).now o
  absence_shown o absent = cases (find (after (start w age) s.moves).now (table_of o)) (defs_shown w ordered age s.moves (table_of o) ∙ ap (option_map (λ (x : Table). x.def)) absent)
    where
      cases : (y : Option Table) → option_map (λ (x : Table). x.def) y ≡ None → reply.NoTable (table_of o) ≡ answer_or (failure_in y o) y o
      cases None e = refl
      cases (Some y) e = cc
