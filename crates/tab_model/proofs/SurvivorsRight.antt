-- The surviving updates of a transaction, one after another, give the tables that it leaves; and what they leave of one table.
use Rattle.std.proofs.Common.{◌≡◌, ℕ, List, [], ◌∷◌, ◌++◌, Bool, true, false, refl, ap, ◌∙◌, subst, Option, Some, None}
use Rattle.std.specs.Prelude.{if◌then◌else◌, is_some, map}
use Rattle.tab_model.specs.declared.data.Operation.{Operation}
use Rattle.tab_model.specs.declared.data.Move.{Move}
use Rattle.tab_model.specs.declared.data.Move.TheVariants.{Do, Open, Close, Undo}
use Rattle.tab_model.specs.declared.data.Change.{Change}
use Rattle.tab_model.specs.Catalogs.{Catalog, Table, find}
use Rattle.tab_model.specs.Operations.{table_of, failure_in, failure, answer_or, answer, change_of_op, change_by, change_catalog, effect}
use Rattle.tab_model.specs.Alone.{Mid, start, without_innermost, back_to, back, next, after, replies}
use Rattle.tab_model.proofs.OperationAnswers.{answers}
use Rattle.tab_model.specs.Events.{drop_level, top_level, is_failure, with_change, survivors, surviving_changes, change_all}

-- a reply tells whether the operation failed
pub reply_tells : (x : Option Table) (o : Operation) → is_failure (Some (answer_or (failure_in x o) x o)) ≡ is_some (failure_in x o)
reply_tells = answers (λ f r. is_failure (Some r) ≡ is_some f) (record { no_table = λ t. refl; bad_type = λ t r. refl; no_index = λ t a. refl; found = λ rs. refl; done = refl })

change_all-push : (w : Catalog) (cs : List Change) (c : Change) → change_all w (cs ++ c ∷ []) ≡ change_catalog (change_all w cs) c
change_all-push w [] c = refl
change_all-push w (x ∷ cs) c = change_all-push (change_catalog w x) cs c

-- the updates so far, and those at each open level's begin, give the tables now and then
record Kept (w : Catalog) (now : List Change) (saved : List (List Change)) (m : Mid) : Type 0 where
  now_is : change_all w now ≡ m.now
  saved_are : map (change_all w) saved ≡ m.saved
  base_is : w ≡ m.base

kept_back : (w : Catalog) (now : List Change) (saved : List (List Change)) (m : Mid) → Kept w now saved m → Kept w (top_level saved) (drop_level saved) (back m)
kept_back w now [] m k = subst (λ (ws : List Catalog). Kept w [] [] (back_to m ws)) k.saved_are (record { now_is = k.base_is; saved_are = refl; base_is = k.base_is })
kept_back w now (x ∷ saved) m k = subst (λ (ws : List Catalog). Kept w x saved (back_to m ws)) k.saved_are (record { now_is = refl; saved_are = refl; base_is = k.base_is })

kept_closed : (w : Catalog) (now : List Change) (saved : List (List Change)) (m : Mid) → Kept w now saved m → map (change_all w) (drop_level saved) ≡ without_innermost m.saved
kept_closed w now [] m k = ap without_innermost k.saved_are
kept_closed w now (x ∷ saved) m k = ap without_innermost k.saved_are

kept_change : (w : Catalog) (cs : List Change) (c : Option Change) → change_all w (with_change cs c) ≡ change_by (change_all w cs) c
kept_change w cs None = refl
kept_change w cs (Some c) = change_all-push w cs c

survives : (w : Catalog) (now : List Change) (saved : List (List Change)) (m : Mid) (xs : List Move) → Kept w now saved m → change_all w (survivors now saved xs (replies m xs)) ≡ (after m xs).now
survives w now saved m [] k = k.now_is
survives w now saved m (Do o ∷ xs) k =
    by_case (is_failure (Some (answer m.now o))) (is_some (failure m.now o)) (reply_tells (find m.now (table_of o)) o)
    (survives w (top_level saved) (drop_level saved) (back m) xs (kept_back w now saved m k))
    (survives w (with_change now (change_of_op o)) saved on xs (record { now_is = kept_change w now (change_of_op o) ∙ ap (λ v. effect v o) k.now_is; saved_are = k.saved_are; base_is = k.base_is }))
  where
    on : Mid
    on = record m { now = effect m.now o }

    by_case : (a b : Bool) → a ≡ b
        → change_all w (survivors (top_level saved) (drop_level saved) xs (replies (back m) xs)) ≡ (after (back m) xs).now
        → change_all w (survivors (with_change now (change_of_op o)) saved xs (replies on xs)) ≡ (after on xs).now
        → change_all w (if a then survivors (top_level saved) (drop_level saved) xs (replies (if b then back m else on) xs) else survivors (with_change now (change_of_op o)) saved xs (replies (if b then back m else on) xs))
        ≡ (after (if b then back m else on) xs).now
    by_case true true e p q = p
    by_case false false e p q = q
    by_case true false e p q = cc
    by_case false true e p q = cc
survives w now saved m (Open ∷ xs) k = survives w now (now ∷ saved) (next m Open) xs (record { now_is = k.now_is; saved_are = λ i. k.now_is i ∷ k.saved_are i; base_is = k.base_is })
survives w now saved m (Close ∷ xs) k = survives w now (drop_level saved) (next m Close) xs (record { now_is = k.now_is; saved_are = kept_closed w now saved m k; base_is = k.base_is })
survives w now saved m (Undo ∷ xs) k = survives w (top_level saved) (drop_level saved) (next m Undo) xs (kept_back w now saved m k)

-- the surviving updates, read off the replies, give the tables after the transaction
pub survivors_are : (w : Catalog) (age : ℕ) (xs : List Move) → change_all w (surviving_changes xs (replies (start w age) xs)) ≡ (after (start w age) xs).now
survivors_are w age xs = survives w [] [] (start w age) xs (record { now_is = refl; saved_are = refl; base_is = refl })
