-- A transaction sees no more than its locks cover, and changes no more than it writes.
use Rattle.std.proofs.Common.{◌≡◌, ℕ, List, [], ◌∷◌, Bool, true, false, refl, sym, ap, ◌∙◌, subst, Option, Some, None}
use Rattle.std.specs.Prelude.{if◌then◌else◌, is_some}
use Rattle.std.specs.Str.{bytes_eq}
use Rattle.std.proofs.lemmas.Bool.{false≢true}
use Rattle.std.proofs.lemmas.Slice.Eq.{bytes_eq-Decides}
use Rattle.tab_term.specs.Data.{PlainTerm}
use Rattle.tab_term.specs.Same.{same}
use Rattle.tab_model.specs.declared.data.Operation.{Operation}
use Rattle.tab_model.specs.declared.data.Operation.TheVariants as op
use Rattle.tab_model.specs.declared.data.Change.{Change}
use Rattle.tab_model.specs.declared.data.Change.TheVariants as change
use Rattle.tab_model.specs.declared.data.Move.{Move}
use Rattle.tab_model.specs.declared.data.Move.TheVariants.{Do, Open, Close, Undo}
use Rattle.tab_model.specs.declared.data.TableDef.{TableDef}
use Rattle.tab_model.specs.declared.data.Reply.{Reply}
use Rattle.tab_model.specs.Tables.{at, apply, is_ordered}
use Rattle.tab_model.specs.Catalogs.{Catalog, Table, name_of, find, with_rows}
use Rattle.tab_model.specs.Operations.{table_of, failure_in, failure, answer, answer_or, change_of_op, table_of_change, key_of_change, change_table, change_catalog, change_by, effect}
use Rattle.tab_model.specs.Alone.{Mid, without_innermost, back_to, back, next, reply_to, after, replies}
use Rattle.tab_model.specs.Locks.{Part, All, Key, needs}
use Rattle.tab_model.proofs.TableLaws.{same_true}
use Rattle.tab_model.proofs.ChangeLaws.{at-apply, ordered-apply, find-place}
use Rattle.tab_model.proofs.CoveredOperations.{Alike, same_failure, same_told}

pub eq_names : (a b : List ℕ) → bytes_eq a b ≡ true → a ≡ b
eq_names a b h = (bytes_eq-Decides a b).0 h

pub find_name : (w : Catalog) (n : List ℕ) (x : Table) → find w n ≡ Some x → name_of x ≡ n
find_name [] n x h = cc
find_name (u ∷ w) n x h = cases (find_name w n x) (bytes_eq (name_of u) n) refl h
  where
    cases : (find w n ≡ Some x → name_of x ≡ n) → (b : Bool) → bytes_eq (name_of u) n ≡ b → (if b then Some u else find w n) ≡ Some x → name_of x ≡ n
    cases ih true e f = let g : u ≡ x = cc in ap name_of (sym g) ∙ eq_names (name_of u) n e
    cases ih false e f = ih f

-- tables of one definition that agree on the keys that pass a test
pub record Like (c : PlainTerm → Bool) (x y : Table) : Type 0 where
  pub defs : x.def ≡ y.def
  pub cells : (k : PlainTerm) → c k ≡ true → at x.rows k ≡ at y.rows k
  pub ordered : is_ordered x.rows ≡ true
  pub ordered' : is_ordered y.rows ≡ true

abbrev pub AgreeTab : (PlainTerm → Bool) → Option Table → Option Table → Type 0
AgreeTab c None None = Unit {0}
AgreeTab c (Some x) (Some y) = Like c x y
AgreeTab c None (Some y) = ⊥
AgreeTab c (Some x) None = ⊥

abbrev pub Agree : (List ℕ → PlainTerm → Bool) → (List ℕ → Bool) → Catalog → Catalog → Type 0
Agree c d w v = (t : List ℕ) → d t ≡ true → AgreeTab (c t) (find w t) (find v t)

abbrev pub SeesPart : (PlainTerm → Bool) → Part → Type 0
SeesPart c All = (k : PlainTerm) → c k ≡ true
SeesPart c (Key k) = c k ≡ true

alike : (c : PlainTerm → Bool) (p : Part) (x y : Table) → Like c x y → SeesPart c p → Alike p x y
alike c All x y a s = record { defs = a.defs; rows = λ k. a.cells k (s k); ordered = a.ordered; ordered' = a.ordered' }
alike c (Key k) x y a s = record { defs = a.defs; rows = a.cells k s; ordered = a.ordered; ordered' = a.ordered' }

same_in : (c : PlainTerm → Bool) (o : Operation) (x y : Option Table) → AgreeTab c x y → SeesPart c (needs o).part → (failure_in x o ≡ failure_in y o) × (answer_or (failure_in x o) x o ≡ answer_or (failure_in y o) y o)
same_in c o None None a s = (refl, refl)
same_in c o (Some x) (Some y) a s = (same_failure o x y a.defs, same_told o x y (alike c (needs o).part x y a s))
same_in c o None (Some y) a s = absurd a
same_in c o (Some x) None a s = absurd a

-- one change made on both sides, and one on the right alone at a key that doesn't pass
module _ (c : List ℕ → PlainTerm → Bool) (d : List ℕ → Bool) where
  like_change : (f : PlainTerm → Bool) (x y : Table) (h : Change) → Like f x y → Like f (with_rows x (apply x.def.kind x.rows h)) (with_rows y (apply y.def.kind y.rows h))
  like_change f x y h a = record {
    defs = a.defs;
    cells = λ k g. at-apply x.def.kind x.rows h k a.ordered ∙ (λ i. if same (key_of_change h) k then apply (TableDef.kind (a.defs i)) (a.cells k g i) h else a.cells k g i) ∙ sym (at-apply y.def.kind y.rows h k a.ordered');
    ordered = ordered-apply x.def.kind x.rows h a.ordered;
    ordered' = ordered-apply y.def.kind y.rows h a.ordered';
  }

  like_other : (f : PlainTerm → Bool) (x y : Table) (h : Change) → f (key_of_change h) ≡ false → Like f x y → Like f x (with_rows y (apply y.def.kind y.rows h))
  like_other f x y h none a = record {
    defs = a.defs;
    cells = λ k g. a.cells k g ∙ kept k g (same (key_of_change h) k) refl ∙ sym (at-apply y.def.kind y.rows h k a.ordered');
    ordered = a.ordered;
    ordered' = ordered-apply y.def.kind y.rows h a.ordered';
  }
    where
      kept : (k : PlainTerm) → f k ≡ true → (b : Bool) → same (key_of_change h) k ≡ b → at y.rows k ≡ (if b then apply y.def.kind (at y.rows k) h else at y.rows k)
      kept k g true e = absurd (false≢true (sym none ∙ ap f (same_true (key_of_change h) k e) ∙ g))
      kept k g false e = refl

  agree_change : (w v : Catalog) (h : Change) → Agree c d w v → d (table_of_change h) ≡ true → Agree c d (change_catalog w h) (change_catalog v h)
  agree_change w v h a here t dt = cases (find w (table_of_change h)) refl (find v (table_of_change h)) refl (a (table_of_change h) here)
    where
      cases : (x : Option Table) → find w (table_of_change h) ≡ x → (y : Option Table) → find v (table_of_change h) ≡ y → AgreeTab (c (table_of_change h)) x y → AgreeTab (c t) (find (change_table w x h) t) (find (change_table v y h) t)
      cases None e None f g = a t dt
      cases None e (Some y) f g = absurd g
      cases (Some x) e None f g = absurd g
      cases (Some x) e (Some y) f g =
          subst (λ o. AgreeTab (c t) o (find (change_table v (Some y) h) t)) (sym (find-place w (with_rows x (apply x.def.kind x.rows h)) t))
          (subst (λ o. AgreeTab (c t) (if bytes_eq (name_of x) t then Some (with_rows x (apply x.def.kind x.rows h)) else find w t) o) (sym (find-place v (with_rows y (apply y.def.kind y.rows h)) t ∙ ap (λ (z : TableDef). if bytes_eq z.name t then Some (with_rows y (apply y.def.kind y.rows h)) else find v t) (sym g.defs)))
          (placed (bytes_eq (name_of x) t) refl))
        where
          placed : (b : Bool) → bytes_eq (name_of x) t ≡ b → AgreeTab (c t) (if b then Some (with_rows x (apply x.def.kind x.rows h)) else find w t) (if b then Some (with_rows y (apply y.def.kind y.rows h)) else find v t)
          placed true k = subst (λ (n : List ℕ). Like (c n) (with_rows x (apply x.def.kind x.rows h)) (with_rows y (apply y.def.kind y.rows h))) (sym (find_name w (table_of_change h) x e) ∙ eq_names (name_of x) t k) (like_change (c (table_of_change h)) x y h g)
          placed false k = a t dt

  agree_other : (w v : Catalog) (h : Change) → Agree c d w v → d (table_of_change h) ≡ true → c (table_of_change h) (key_of_change h) ≡ false → Agree c d w (change_catalog v h)
  agree_other w v h a here none t dt = cases (find w (table_of_change h)) refl (find v (table_of_change h)) refl (a (table_of_change h) here)
    where
      cases : (x : Option Table) → find w (table_of_change h) ≡ x → (y : Option Table) → find v (table_of_change h) ≡ y → AgreeTab (c (table_of_change h)) x y → AgreeTab (c t) (find w t) (find (change_table v y h) t)
      cases None e None f g = a t dt
      cases None e (Some y) f g = absurd g
      cases (Some x) e None f g = absurd g
      cases (Some x) e (Some y) f g = subst (λ o. AgreeTab (c t) (find w t) o) (sym (find-place v (with_rows y (apply y.def.kind y.rows h)) t)) (placed (bytes_eq (name_of y) t) refl)
        where
          placed : (b : Bool) → bytes_eq (name_of y) t ≡ b → AgreeTab (c t) (find w t) (if b then Some (with_rows y (apply y.def.kind y.rows h)) else find v t)
          placed true k =
              let n : table_of_change h ≡ t = sym (find_name v (table_of_change h) y f) ∙ eq_names (name_of y) t k in
              subst (λ (m : List ℕ). AgreeTab (c m) (find w m) (Some (with_rows y (apply y.def.kind y.rows h)))) n (subst (λ o. AgreeTab (c (table_of_change h)) o (Some (with_rows y (apply y.def.kind y.rows h)))) (sym e) (like_other (c (table_of_change h)) x y h none g))
          placed false k = a t dt

  abbrev Sees : Operation → Type 0
  Sees o = (d (table_of o) ≡ true) × SeesPart (c (table_of o)) (needs o).part

  same_answer : (w v : Catalog) (o : Operation) → Agree c d w v → Sees o → (failure w o ≡ failure v o) × (answer w o ≡ answer v o)
  same_answer w v o a s = same_in (c (table_of o)) o (find w (table_of o)) (find v (table_of o)) (a (table_of o) s.0) s.1

  agree_effect : (w v : Catalog) (o : Operation) → Agree c d w v → d (table_of o) ≡ true → Agree c d (effect w o) (effect v o)
  agree_effect w v (op.Read n k) a s = a
  agree_effect w v (op.ReadForWrite n k) a s = a
  agree_effect w v (op.Write r) a s = agree_change w v (change.Write r) a s
  agree_effect w v (op.Delete n k) a s = agree_change w v (change.Delete n k) a s
  agree_effect w v (op.DeleteObject r) a s = agree_change w v (change.DeleteObject r) a s
  agree_effect w v (op.IndexRead n x b) a s = a
  agree_effect w v (op.MatchObject p) a s = a
  agree_effect w v (op.AllKeys n) a s = a
  agree_effect w v (op.ReadLockTable n) a s = a
  agree_effect w v (op.WriteLockTable n) a s = a

  abbrev AgreeAll : List Catalog → List Catalog → Type 0
  AgreeAll [] [] = Unit {0}
  AgreeAll (w ∷ ws) (v ∷ vs) = Agree c d w v × AgreeAll ws vs
  AgreeAll [] (v ∷ vs) = ⊥
  AgreeAll (w ∷ ws) [] = ⊥

  pub record AgreeMid (m n : Mid) : Type 0 where
    pub age : m.age ≡ n.age
    pub now : Agree c d m.now n.now
    pub saved : AgreeAll m.saved n.saved
    pub base : Agree c d m.base n.base

  agree_back : (m n : Mid) (ws vs : List Catalog) → m.age ≡ n.age → Agree c d m.base n.base → AgreeAll ws vs → AgreeMid (back_to m ws) (back_to n vs)
  agree_back m n [] [] g b rest = record { age = g; now = b; saved = tt; base = b }
  agree_back m n (x ∷ ws) (y ∷ vs) g b rest = record { age = g; now = rest.0; saved = rest.1; base = b }
  agree_back m n [] (y ∷ vs) g b rest = absurd rest
  agree_back m n (x ∷ ws) [] g b rest = absurd rest

  agree_forgotten : (ws vs : List Catalog) → AgreeAll ws vs → AgreeAll (without_innermost ws) (without_innermost vs)
  agree_forgotten [] [] rest = tt
  agree_forgotten (x ∷ ws) (y ∷ vs) rest = rest.1
  agree_forgotten [] (y ∷ vs) rest = absurd rest
  agree_forgotten (x ∷ ws) [] rest = absurd rest

  agree_choice : (a b : Bool) (m n m' n' : Mid) → a ≡ b → AgreeMid m n → AgreeMid m' n' → AgreeMid (if a then m else m') (if b then n else n')
  agree_choice true true m n m' n' e x y = x
  agree_choice false false m n m' n' e x y = y
  agree_choice true false m n m' n' e x y = cc
  agree_choice false true m n m' n' e x y = cc

  abbrev SeesMove : Move → Type 0
  SeesMove (Do o) = Sees o
  SeesMove Open = Unit {0}
  SeesMove Close = Unit {0}
  SeesMove Undo = Unit {0}

  abbrev pub SeesAll : List Move → Type 0
  SeesAll [] = Unit {0}
  SeesAll (x ∷ xs) = SeesMove x × SeesAll xs

  agree_next : (m n : Mid) (x : Move) → AgreeMid m n → SeesMove x → AgreeMid (next m x) (next n x)
  agree_next m n (Do o) a s = agree_choice _ _ _ _ _ _ (ap is_some (same_answer m.now n.now o a.now s).0) (agree_back m n m.saved n.saved a.age a.base a.saved)
      (record { age = a.age; now = agree_effect m.now n.now o a.now s.0; saved = a.saved; base = a.base })
  agree_next m n Open a s = record { age = a.age; now = a.now; saved = (a.now, a.saved); base = a.base }
  agree_next m n Close a s = record { age = a.age; now = a.now; saved = agree_forgotten m.saved n.saved a.saved; base = a.base }
  agree_next m n Undo a s = agree_back m n m.saved n.saved a.age a.base a.saved

  same_move : (m n : Mid) (x : Move) → AgreeMid m n → SeesMove x → reply_to m x ≡ reply_to n x
  same_move m n (Do o) a s = ap (λ r. Some r) (same_answer m.now n.now o a.now s).1
  same_move m n Open a s = ap (λ g. Some (Rattle.tab_model.specs.declared.data.Reply.TheVariants.Tid g)) a.age
  same_move m n Close a s = refl
  same_move m n Undo a s = refl

  -- a transaction is told the same in two worlds that agree on what it sees
  pub same_replies : (m n : Mid) (xs : List Move) → AgreeMid m n → SeesAll xs → replies m xs ≡ replies n xs
  same_replies m n [] a s = refl
  same_replies m n (x ∷ xs) a s = λ i. same_move m n x a s.0 i ∷ same_replies (next m x) (next n x) xs (agree_next m n x a s.0) s.1 i

  -- what an operation writes doesn't pass
  abbrev WritesChange : Option Change → Type 0
  WritesChange None = Unit {0}
  WritesChange (Some h) = (d (table_of_change h) ≡ true) × (c (table_of_change h) (key_of_change h) ≡ false)

  abbrev WritesMove : Move → Type 0
  WritesMove (Do o) = WritesChange (change_of_op o)
  WritesMove Open = Unit {0}
  WritesMove Close = Unit {0}
  WritesMove Undo = Unit {0}

  abbrev pub WritesAll : List Move → Type 0
  WritesAll [] = Unit {0}
  WritesAll (x ∷ xs) = WritesMove x × WritesAll xs

  keeps_change : (w v : Catalog) (h : Option Change) → Agree c d w v → WritesChange h → Agree c d w (change_by v h)
  keeps_change w v None a s = a
  keeps_change w v (Some h) a s = agree_other w v h a s.0 s.1

  abbrev KeepsAll : Catalog → List Catalog → Type 0
  KeepsAll w [] = Unit {0}
  KeepsAll w (v ∷ vs) = Agree c d w v × KeepsAll w vs

  pub record KeepsMid (w : Catalog) (m : Mid) : Type 0 where
    pub now : Agree c d w m.now
    pub saved : KeepsAll w m.saved
    pub base : Agree c d w m.base

  keeps_back : (w : Catalog) (m : Mid) (vs : List Catalog) → Agree c d w m.base → KeepsAll w vs → KeepsMid w (back_to m vs)
  keeps_back w m [] b rest = record { now = b; saved = tt; base = b }
  keeps_back w m (x ∷ vs) b rest = record { now = rest.0; saved = rest.1; base = b }

  keeps_forgotten : (w : Catalog) (vs : List Catalog) → KeepsAll w vs → KeepsAll w (without_innermost vs)
  keeps_forgotten w [] rest = tt
  keeps_forgotten w (x ∷ vs) rest = rest.1

  keeps_choice : (w : Catalog) (a : Bool) (m n : Mid) → KeepsMid w m → KeepsMid w n → KeepsMid w (if a then m else n)
  keeps_choice w true m n x y = x
  keeps_choice w false m n x y = y

  keeps_next : (w : Catalog) (m : Mid) (x : Move) → KeepsMid w m → WritesMove x → KeepsMid w (next m x)
  keeps_next w m (Do o) a s = keeps_choice w (is_some (failure m.now o)) (back m) (record m { now = effect m.now o }) (keeps_back w m m.saved a.base a.saved) (record { now = keeps_change w m.now (change_of_op o) a.now s; saved = a.saved; base = a.base })
  keeps_next w m Open a s = record { now = a.now; saved = (a.now, a.saved); base = a.base }
  keeps_next w m Close a s = record { now = a.now; saved = keeps_forgotten w m.saved a.saved; base = a.base }
  keeps_next w m Undo a s = keeps_back w m m.saved a.base a.saved

  -- a transaction changes only what it writes
  pub keeps_after : (w : Catalog) (m : Mid) (xs : List Move) → KeepsMid w m → WritesAll xs → KeepsMid w (after m xs)
  keeps_after w m [] a s = a
  keeps_after w m (x ∷ xs) a s = keeps_after w (next m x) xs (keeps_next w m x a s.0) s.1
