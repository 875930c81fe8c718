-- Entries run one after another: what an audit finds of each, and of the whole log.
use Rattle.std.proofs.Common.{◌≡◌, ◌≢◌, ℕ, suc, ◌+◌, List, [], ◌∷◌, Bool, true, false, Option, Some, None, refl, sym, ap, ◌∙◌, subst, drop, length, get_or, ◌<◌, ◌≤◌}
use Rattle.std.specs.Prelude.{if◌then◌else◌, is_some, ◌&&◌, ◌==◌}
use Rattle.std.specs.Str.{bytes_eq}
use Rattle.std.specs.Bool.{Decides}
use Rattle.std.proofs.lemmas.Bool.{false≢true}
use Rattle.std.proofs.lemmas.Bool.Decides.{Decides-and, Decides-like, Decides-eqb}
use Rattle.std.proofs.lemmas.List.{at_drop_more, at_drop_all}
use Rattle.std.proofs.lemmas.Slice.Eq.{bytes_eq-Decides}
use Rattle.tab_term.specs.Data.{PlainTerms}
use Rattle.tab_term.specs.View.{term}
use Rattle.tab_term.specs.Same.{same, all_same, same-Decides, all_same-Decides}
use Rattle.tab_term.specs.declared.term.Term.{Term}
use Rattle.tab_term.specs.declared.term.Term.TheVariants as is
use Rattle.tab_model.specs.declared.data.Change.{Change}
use Rattle.tab_model.specs.declared.data.Entry.{Entry}
use Rattle.tab_model.specs.declared.data.Entry.TheVariants.{Committed, Changed, Subscribed, Unsubscribed}
use Rattle.tab_model.specs.declared.data.Move.{Move}
use Rattle.tab_model.specs.declared.data.Move.TheVariants.{Do, Open, Close, Undo}
use Rattle.tab_model.specs.declared.data.Operation.{Operation}
use Rattle.tab_model.specs.declared.data.Reply.{Reply}
use Rattle.tab_model.specs.declared.data.Reply.TheVariants as reply
use Rattle.tab_model.specs.Alone.{Mid, start, next, back, after, reply_to, replies}
use Rattle.tab_model.specs.Events.{change_all, surviving_changes, is_failure}
use Rattle.tab_model.specs.History.{Base, IsHistory, tables_after, number_after}
use Rattle.tab_model.specs.Log.{serial_from, catalog_after, IsRight, IsLegal, count_after}
use Rattle.tab_model.specs.declared.data.Operation.TheVariants as op
use Rattle.tab_model.specs.Definitions.{fits_def, is_indexed, position}
use Rattle.tab_model.specs.Operations.{table_of, table_of_change, change_table, change_catalog, change_by, change_of_op, effect, failure, failure_in, answer, answer_or, answer_in}
use Rattle.tab_model.proofs.SurvivorsRight.{reply_tells}
use Rattle.tab_journal.proofs.SameLemmas.{tables-Decides}
use Rattle.tab_model.specs.Schemas.{schema_refusal, schema_effect}
use Rattle.tab_model.specs.Tables.{is_ordered, apply}
use Rattle.tab_model.specs.Catalogs.{Catalog, Table, IsOrderedCatalog, name_of, find, place, with_rows}
use Rattle.tab_model.proofs.ChangeLaws.{find-place, ordered-apply}
use Rattle.tab_model.proofs.CatalogsOrdered.{ordered-after, schema_ordered}
use Rattle.tab_model.specs.Logged.{is_tid, is_atomic_ok}
use Rattle.tab_journal.specs.Audits.{is_done, is_found, is_no_table, is_bad_type, is_no_index, is_answer, same_tables, Follows, RunsAs, Enters, Leads, with_now}

-- ---- tables stay in order

placed_ordered : (w : Catalog) (x : Table) → IsOrderedCatalog w → is_ordered x.rows ≡ true → IsOrderedCatalog (place w x)
placed_ordered w x o h n t e = cases (bytes_eq (name_of x) n) (sym (find-place w x n) ∙ e)
  where
    cases : (b : Bool) → (if b then Some x else find w n) ≡ Some t → is_ordered t.rows ≡ true
    cases true f = let g : x ≡ t = cc in ap (λ z. is_ordered z.rows) (sym g) ∙ h
    cases false f = o n t f

pub changed_ordered : (w : Catalog) (c : Change) → IsOrderedCatalog w → IsOrderedCatalog (change_catalog w c)
changed_ordered w c o = cases (find w (table_of_change c)) refl
  where
    cases : (x : Option Table) → find w (table_of_change c) ≡ x → IsOrderedCatalog (change_table w x c)
    cases None h = o
    cases (Some x) h = placed_ordered w (with_rows x (apply x.def.kind x.rows c)) o (ordered-apply x.def.kind x.rows c (o (table_of_change c) x h))

pub all_changed_ordered : (w : Catalog) (cs : List Change) → IsOrderedCatalog w → IsOrderedCatalog (change_all w cs)
all_changed_ordered w [] o = o
all_changed_ordered w (c ∷ cs) o = all_changed_ordered (change_catalog w c) cs (changed_ordered w c o)

pub folded_ordered : (w : Catalog) (e : Entry) → IsOrderedCatalog w → IsOrderedCatalog (tables_after w e)
folded_ordered w (Committed n s age ms rs over) o = all_changed_ordered w (surviving_changes ms rs) o
folded_ordered w (Changed c over) o = cases (schema_refusal w c)
  where
    cases : (r : Option Reply) → IsOrderedCatalog (if is_some r then w else schema_effect w c)
    cases None = schema_ordered w c o
    cases (Some r) = o
folded_ordered w (Subscribed s t l dump) o = o
folded_ordered w (Unsubscribed s t) o = o

pub entered_ordered : (w : Catalog) (e : Entry) → IsOrderedCatalog w → IsOrderedCatalog (catalog_after w e)
entered_ordered w (Committed n s age xs rs over) o = ordered-after w age xs o
entered_ordered w (Changed c over) o = schema_ordered w c o
entered_ordered w (Subscribed s t l dump) o = o
entered_ordered w (Unsubscribed s t) o = o

pub effect_ordered : (w : Catalog) (o : Operation) → IsOrderedCatalog w → IsOrderedCatalog (effect w o)
effect_ordered w o h = cases (change_of_op o)
  where
    cases : (c : Option Change) → IsOrderedCatalog (change_by w c)
    cases None = h
    cases (Some c) = changed_ordered w c h

-- ---- the same answer

one_term : (x y : Term) → term x ≡ term y → x ≡ y
one_term (is.Int a) (is.Int b) h = cc
one_term (is.Atom a) (is.Atom b) h = cc
one_term (is.Tuple a) (is.Tuple b) h = cc
one_term (is.List a) (is.List b) h = cc
one_term (is.Bin a) (is.Bin b) h = cc
one_term (is.Map a) (is.Map b) h = cc
one_term x y h = absurd cc

term-Decides : (x y : Term) → Decides (same (term x) (term y)) (x ≡ y)
term-Decides x y = Decides-like (same (term x) (term y)) (one_term x y) (ap term) (same-Decides (term x) (term y))

named-Decides : (t u : List ℕ) (x y : Term) → Decides (bytes_eq t u && same (term x) (term y)) ((t ≡ u) × (x ≡ y))
named-Decides t u x y = Decides-and (bytes_eq t u) (same (term x) (term y)) (bytes_eq-Decides t u) (term-Decides x y)

done-Decides : (r : Reply) → Decides (is_done r) (reply.Done ≡ r)
done-Decides reply.Done = (λ e. refl, λ e. refl)
done-Decides r = (λ e. absurd (false≢true e), λ e. absurd cc)

found-Decides : (ts : PlainTerms) (r : Reply) → Decides (is_found ts r) (reply.Found ts ≡ r)
found-Decides ts (reply.Found us) = Decides-like (all_same ts us) (ap reply.Found) (λ e. cc) (all_same-Decides ts us)
found-Decides ts r = (λ e. absurd (false≢true e), λ e. absurd cc)

no_table-Decides : (t : List ℕ) (r : Reply) → Decides (is_no_table t r) (reply.NoTable t ≡ r)
no_table-Decides t (reply.NoTable u) = Decides-like (bytes_eq t u) (ap reply.NoTable) (λ e. cc) (bytes_eq-Decides t u)
no_table-Decides t r = (λ e. absurd (false≢true e), λ e. absurd cc)

bad_type-Decides : (t : List ℕ) (x : Term) (r : Reply) → Decides (is_bad_type t x r) (reply.BadType t x ≡ r)
bad_type-Decides t x (reply.BadType u y) = Decides-like (bytes_eq t u && same (term x) (term y)) (λ p. λ i. reply.BadType (p.0 i) (p.1 i)) (λ e. (cc, cc)) (named-Decides t u x y)
bad_type-Decides t x r = (λ e. absurd (false≢true e), λ e. absurd cc)

no_index-Decides : (t : List ℕ) (x : Term) (r : Reply) → Decides (is_no_index t x r) (reply.NoIndex t x ≡ r)
no_index-Decides t x (reply.NoIndex u y) = Decides-like (bytes_eq t u && same (term x) (term y)) (λ p. λ i. reply.NoIndex (p.0 i) (p.1 i)) (λ e. (cc, cc)) (named-Decides t u x y)
no_index-Decides t x r = (λ e. absurd (false≢true e), λ e. absurd cc)

-- the kinds of reply that operations have
abbrev IsOperations : Reply → Type 0
IsOperations reply.Done = Unit {0}
IsOperations (reply.Found ts) = Unit {0}
IsOperations (reply.NoTable t) = Unit {0}
IsOperations (reply.BadType t x) = Unit {0}
IsOperations (reply.NoIndex t x) = Unit {0}
IsOperations r = ⊥

answer-Decides : (a r : Reply) → IsOperations a → Decides (is_answer a r) (a ≡ r)
answer-Decides reply.Done r h = done-Decides r
answer-Decides (reply.Found ts) r h = found-Decides ts r
answer-Decides (reply.NoTable t) r h = no_table-Decides t r
answer-Decides (reply.BadType t x) r h = bad_type-Decides t x r
answer-Decides (reply.NoIndex t x) r h = no_index-Decides t x r
answer-Decides a r h = absurd h

answers_are : (w : Catalog) (o : Operation) → IsOperations (answer w o)
answers_are w o = cases (find w (table_of o)) o
  where
    by_type : (b : Bool) (t : List ℕ) (x : Term) (y : Option Table) (p : Operation) → IsOperations (answer_in y p) → IsOperations (answer_or (if b then None else Some (reply.BadType t x)) y p)
    by_type true t x y p h = h
    by_type false t x y p h = tt

    by_index : (b : Bool) (t : List ℕ) (x : Term) (y : Option Table) (p : Operation) → IsOperations (answer_in y p) → IsOperations (answer_or (if b then None else Some (reply.NoIndex t x)) y p)
    by_index true t x y p h = h
    by_index false t x y p h = tt

    cases : (x : Option Table) (p : Operation) → IsOperations (answer_or (failure_in x p) x p)
    cases None p = tt
    cases (Some x) (op.Read t k) = tt
    cases (Some x) (op.ReadForWrite t k) = tt
    cases (Some x) (op.Write r) = by_type (fits_def x.def (term r)) x.def.name r (Some x) (op.Write r) tt
    cases (Some x) (op.Delete t k) = tt
    cases (Some x) (op.DeleteObject r) = by_type (fits_def x.def (term r)) x.def.name r (Some x) (op.DeleteObject r) tt
    cases (Some x) (op.IndexRead t v a) = by_index (is_indexed x.def (position x.def (term a))) t a (Some x) (op.IndexRead t v a) tt
    cases (Some x) (op.MatchObject r) = by_type (fits_def x.def (term r)) x.def.name r (Some x) (op.MatchObject r) tt
    cases (Some x) (op.AllKeys t) = tt
    cases (Some x) (op.ReadLockTable t) = tt
    cases (Some x) (op.WriteLockTable t) = tt

-- what an operation is told was compared
pub told_decided : (w : Catalog) (o : Operation) (a r : Reply) (b : Bool) → a ≡ answer w o → b ≡ is_answer a r → Decides b (answer w o ≡ r)
told_decided w o a r b e h = let d = answer-Decides (answer w o) r (answers_are w o) in let same : b ≡ is_answer (answer w o) r = h ∙ ap (λ x. is_answer x r) e in
    ((λ t. d.0 (sym same ∙ t)), (λ q. same ∙ d.1 q))

-- ---- moves

pub not_told : (m : Mid) (o : Operation) (r : Reply) (b : Bool) → Decides b (answer m.now o ≡ r) → b ≡ false → Follows m (Do o) (Some r) None
not_told m o r b d h = λ e. absurd (false≢true (sym h ∙ d.1 (inner (answer m.now o) r e)))
  where
    inner : (x y : Reply) → Some x ≡ Some y → x ≡ y
    inner x y e = cc

failed_is : (m : Mid) (o : Operation) (r : Reply) → answer m.now o ≡ r → is_failure (Some r) ≡ is_some (failure m.now o)
failed_is m o r e = ap (λ x. is_failure (Some x)) (sym e) ∙ reply_tells (find m.now (table_of o)) o

pub fails : (m n : Mid) (o : Operation) (r : Reply) (b : Bool) → Decides b (answer m.now o ≡ r) → b ≡ true → is_failure (Some r) ≡ true → n ≡ back m → Follows m (Do o) (Some r) (Some n)
fails m n o r b d h f e = let same = d.0 h in
    (ap Some same, e ∙ sym (ap (λ c. if c then back m else with_now m (effect m.now o)) (sym (failed_is m o r same) ∙ f)))

pub changes : (m n : Mid) (o : Operation) (r : Reply) (b : Bool) → Decides b (answer m.now o ≡ r) → b ≡ true → is_failure (Some r) ≡ false → n ≡ with_now m (effect m.now o) → Follows m (Do o) (Some r) (Some n)
changes m n o r b d h f e = let same = d.0 h in
    (ap Some same, e ∙ sym (ap (λ c. if c then back m else with_now m (effect m.now o)) (sym (failed_is m o r same) ∙ f)))

tid-Decides : (age : ℕ) (r : Option Reply) → Decides (is_tid age r) (Some (reply.Tid age) ≡ r)
tid-Decides age (Some (reply.Tid n)) = Decides-like (age == n) (ap (λ x. Some (reply.Tid x))) (λ e. cc) (Decides-eqb age n)
tid-Decides age r = (λ e. absurd (false≢true e), λ e. absurd cc)

ok-Decides : (r : Option Reply) → Decides (is_atomic_ok r) (Some reply.AtomicOk ≡ r)
ok-Decides (Some reply.AtomicOk) = (λ e. refl, λ e. refl)
ok-Decides r = (λ e. absurd (false≢true e), λ e. absurd cc)

pub no_begin : (m : Mid) (r : Option Reply) → is_tid m.age r ≡ false → Follows m Open r None
no_begin m r h = λ e. absurd (false≢true (sym h ∙ (tid-Decides m.age r).1 e))

pub begins : (m n : Mid) (r : Option Reply) → is_tid m.age r ≡ true → n ≡ next m Open → Follows m Open r (Some n)
begins m n r h e = ((tid-Decides m.age r).0 h, e)

pub no_commit : (m : Mid) (r : Option Reply) → is_atomic_ok r ≡ false → Follows m Close r None
no_commit m r h = λ e. absurd (false≢true (sym h ∙ (ok-Decides r).1 e))

pub commits : (m n : Mid) (r : Option Reply) → is_atomic_ok r ≡ true → n ≡ next m Close → Follows m Close r (Some n)
commits m n r h e = ((ok-Decides r).0 h, e)

pub no_undo : (m : Mid) (r : Option Reply) → is_some r ≡ true → Follows m Undo r None
no_undo m None h = cc
no_undo m (Some x) h = λ e. cc

pub undoes : (m n : Mid) (r : Option Reply) → is_some r ≡ false → n ≡ back m → Follows m Undo r (Some n)
undoes m n None h e = (refl, e)
undoes m n (Some x) h e = cc

-- ---- all moves, one after another

-- from the place i on they are run from m
pub record Runs (w : Catalog) (age : ℕ) (xs : List Move) (rs : List (Option Reply)) (m : Mid) (i : ℕ) : Type 0 where
  pub on : replies m (drop i xs) ≡ drop i rs → replies (start w age) xs ≡ rs
  pub back : replies (start w age) xs ≡ rs → replies m (drop i xs) ≡ drop i rs
  pub ends : after m (drop i xs) ≡ after (start w age) xs

pub runs_start : (w : Catalog) (age : ℕ) (xs : List Move) (rs : List (Option Reply)) (m : Mid) → m ≡ start w age → Runs w age xs rs m 0
runs_start w age xs rs m e = record { on = λ h. ap (λ n. replies n xs) (sym e) ∙ h; back = λ h. ap (λ n. replies n xs) e ∙ h; ends = ap (λ n. after n xs) e }

module _ (w : Catalog) (age : ℕ) (xs : List Move) (rs : List (Option Reply)) (m : Mid) (i : ℕ) (k : Runs w age xs rs m i) where
  module _ (x : Move) (r : Option Reply) (lx : i < length xs) (lr : i < length rs) (at_x : x ≡ get_or xs i x) (at_r : r ≡ get_or rs i r) where
    left : drop i xs ≡ x ∷ drop (i + 1) xs
    left = at_drop_more (λ ys. ys) xs i x lx ∙ ap (λ y. y ∷ drop (i + 1) xs) (sym at_x)

    told_left : drop i rs ≡ r ∷ drop (i + 1) rs
    told_left = at_drop_more (λ ys. ys) rs i r lr ∙ ap (λ y. y ∷ drop (i + 1) rs) (sym at_r)

    pub runs_next : (n : Mid) → Follows m x r (Some n) → Runs w age xs rs n (i + 1)
    runs_next n f = record {
      on = λ h. k.on (ap (replies m) left ∙ (λ j. f.0 j ∷ (ap (λ v. replies v (drop (i + 1) xs)) (sym f.1) ∙ h) j) ∙ sym told_left);
      back = λ h. let both : reply_to m x ∷ replies (next m x) (drop (i + 1) xs) ≡ r ∷ drop (i + 1) rs = ap (replies m) (sym left) ∙ k.back h ∙ told_left in ap (λ v. replies v (drop (i + 1) xs)) f.1 ∙ tails _ _ _ _ both;
      ends = ap (λ v. after v (drop (i + 1) xs)) f.1 ∙ ap (after m) (sym left) ∙ k.ends;
    }
      where
        tails : (a b : Option Reply) (ps qs : List (Option Reply)) → a ∷ ps ≡ b ∷ qs → ps ≡ qs
        tails a b ps qs e = cc

    pub runs_not : Follows m x r None → replies (start w age) xs ≢ rs
    runs_not f = λ h. f (heads _ _ _ _ (ap (replies m) (sym left) ∙ k.back h ∙ told_left))
      where
        heads : (a b : Option Reply) (ps qs : List (Option Reply)) → a ∷ ps ≡ b ∷ qs → a ≡ b
        heads a b ps qs e = cc

  pub runs_end : (v : Catalog) → length xs ≤ i → length rs ≤ i → v ≡ m.now → RunsAs w age xs rs (Some v)
  runs_end v hx hr e =
      let none : drop i xs ≡ [] = at_drop_all (λ ys. ys) xs i hx in
      (k.on (ap (replies m) none ∙ sym (at_drop_all (λ ys. ys) rs i hr)), e ∙ ap (λ n. n.now) (ap (after m) (sym none) ∙ k.ends))

pub lengths_told : (w : Catalog) (age : ℕ) (xs : List Move) (rs : List (Option Reply)) → length xs ≢ length rs → replies (start w age) xs ≢ rs
lengths_told w age xs rs h = λ e. h (sym (replies_length (start w age) xs) ∙ ap length e)
  where
    replies_length : (m : Mid) (ys : List Move) → length (replies m ys) ≡ length ys
    replies_length m [] = refl
    replies_length m (y ∷ ys) = ap suc (replies_length (next m y) ys)

-- ---- a log, entry by entry

counted : (w : Catalog) (c : ℕ) (e : Entry) → IsRight w c e → number_after c e ≡ count_after c e
counted w c (Committed n s age xs rs over) h = h.0
counted w c (Changed x over) h = refl
counted w c (Subscribed s t l dump) h = refl
counted w c (Unsubscribed s t) h = refl

-- these tables are what the log left to run starts from
pub record Goes (b : Base) (log : List Entry) (tables w : Catalog) (commits : ℕ) (rest : List Entry) : Type 0 where
  pub on : Leads w commits rest tables → IsHistory b log tables
  pub back : IsHistory b log tables → Leads w commits rest tables
  pub ordered : IsOrderedCatalog w

pub goes_start : (b : Base) (log : List Entry) (tables w : Catalog) → w ≡ b.tables → IsOrderedCatalog b.tables → Goes b log tables w b.commits log
goes_start b log tables w e o = record {
  on = λ h. record { legal = subst (λ v. IsLegal v b.commits log) e h.0; ends = ap (λ v. serial_from v log) (sym e) ∙ h.1 };
  back = λ h. (subst (λ v. IsLegal v b.commits log) (sym e) h.legal, ap (λ v. serial_from v log) e ∙ h.ends);
  ordered = subst IsOrderedCatalog (sym e) o;
}

module _ (b : Base) (log : List Entry) (tables w : Catalog) (commits : ℕ) (e : Entry) (rest : List Entry) (k : Goes b log tables w commits (e ∷ rest)) where
  pub goes_next : (v : Catalog) → Enters w commits e (Some v) → Goes b log tables v (number_after commits e) rest
  goes_next v f = record {
    on = λ h. k.on ((f.0, subst (λ c. IsLegal (catalog_after w e) c rest) (counted w commits e f.0) (subst (λ u. IsLegal u (number_after commits e) rest) f.1 h.0)), ap (λ u. serial_from u rest) (sym f.1) ∙ h.1);
    back = λ h. let g = k.back h in (subst (λ u. IsLegal u (number_after commits e) rest) (sym f.1) (subst (λ c. IsLegal (catalog_after w e) c rest) (sym (counted w commits e f.0)) g.0.1), ap (λ u. serial_from u rest) f.1 ∙ g.1);
    ordered = subst IsOrderedCatalog (sym f.1) (entered_ordered w e k.ordered);
  }

  pub goes_not : Enters w commits e None → IsHistory b log tables → ⊥
  goes_not f h = f (k.back h).0.0

pub goes_end : (b : Base) (log : List Entry) (tables w : Catalog) (commits : ℕ) (is : Bool) → Goes b log tables w commits [] → is ≡ same_tables w tables → Decides is (IsHistory b log tables)
goes_end b log tables w commits is k e = let d = tables-Decides w tables in
    ((λ t. k.on (tt, d.0 (sym e ∙ t))), (λ h. e ∙ d.1 (k.back h).1))
