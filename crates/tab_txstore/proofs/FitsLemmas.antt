-- A store that fits the committed tables: what keeps it so, and what it then shows.
use Rattle.std.proofs.Common.{◌≡◌, ℕ, List, [], ◌∷◌, ◌++◌, Bool, true, false, refl, sym, ap, ◌∙◌, subst, Option, Some, None}
use Rattle.std.specs.Prelude.{if◌then◌else◌, is_some, map, length, option_map}
use Rattle.std.specs.Str.{bytes_eq}
use Rattle.std.specs.List.{list_any}
use Rattle.tab_term.specs.Data.{PlainTerm}
use Rattle.tab_model.specs.declared.data.Change.{Change}
use Rattle.tab_model.specs.declared.data.Change.TheVariants as change
use Rattle.tab_model.specs.declared.data.Operation.{Operation}
use Rattle.tab_model.specs.declared.data.Operation.TheVariants as op
use Rattle.tab_model.specs.declared.data.Move.{Move}
use Rattle.tab_model.specs.declared.data.Move.TheVariants.{Do, Open, Close, Undo}
use Rattle.tab_model.specs.declared.data.Reply.{Reply}
use Rattle.tab_model.specs.declared.data.TableDef.{TableDef}
use Rattle.tab_model.specs.Tables.{Rows, at}
use Rattle.tab_model.specs.Catalogs.{Catalog, Table, find, rows_in, rows_of, cell, IsOrderedCatalog}
use Rattle.tab_model.specs.Operations.{table_of, change_of_op, table_of_change, key_of_change, effect, change_by}
use Rattle.tab_model.specs.Alone.{Mid, start, without_innermost, back_to, next, reply_to, after, replies}
use Rattle.tab_model.specs.Events.{drop_level, top_level, is_failure, with_change, survivors, surviving_changes}
use Rattle.tab_model.specs.Locks.{Lock, locks_of, Apart}
use Rattle.tab_model.proofs.RepliesStay.{AgreeTab, Agree, SeesAll, keeps_after}
use Rattle.tab_model.proofs.LocksApart.{seen, every, sees_own, writes_apart, agree_self, like_back}
use Rattle.tab_model.proofs.SurvivorsRight.{reply_tells}
use Rattle.tab_term.specs.Order.{bytes_cmp, term_cmp}
use Rattle.tab_map.specs.Entries.{lookup, insert_entry}
use Rattle.tab_model.specs.declared.data.Kind.{Kind}
use Rattle.tab_model.specs.Names.{plain_terms}
use Rattle.tab_model.specs.Shapes.{term_value}
use Rattle.tab_model.specs.declared.data.Schema.{Schema}
use Rattle.tab_model.specs.Schemas.{table_of_schema, schema_effect}
use Rattle.tab_model.proofs.CatalogsOrdered.{no_cell_of, not_at, sees_not, agree_elsewhere}
use Rattle.tab_txstore.specs.Overlays.{Touched, Overlay, touched, or_committed, left, seen_at, touch_in}
use Rattle.tab_txstore.specs.Merged.{IsSeen}
use Rattle.tab_txstore.specs.Stores.{Level, Levels, Store, no_levels, no_store, dropped, nested, joined, ended_to, ended, changed, levels_next, committed_for, levels_from, store_next, Fits}
use Rattle.tab_txstore.proofs.TouchLemmas.{ShowsIn, Shows, shows_nothing, shows_touch}

-- ---- (1) a move more

suc_same : (m n : ℕ) → Rattle.std.specs.Prelude.suc m ≡ Rattle.std.specs.Prelude.suc n → m ≡ n
suc_same m n h = cc

levels-push : (w : Catalog) (l : Levels) (xs : List Move) (rs : List (Option Reply)) (x : Move) (r : Option Reply) → length xs ≡ length rs → levels_from w l (xs ++ x ∷ []) (rs ++ r ∷ []) ≡ levels_next (committed_for w x) (levels_from w l xs rs) x r
levels-push w l [] [] x r h = refl
levels-push w l [] (q ∷ rs) x r h = cc
levels-push w l (y ∷ xs) [] x r h = cc
levels-push w l (y ∷ xs) (q ∷ rs) x r h = levels-push w (levels_next (committed_for w y) l y q) xs rs x r (suc_same (length xs) (length rs) h)

pushed : {A B : Type 0} (xs : List A) (x : A) (ys : List B) (y : B) → length xs ≡ length ys → length (xs ++ x ∷ []) ≡ length (ys ++ y ∷ [])
pushed [] x [] y h = refl
pushed [] x (b ∷ ys) y h = cc
pushed (a ∷ xs) x [] y h = cc
pushed (a ∷ xs) x (b ∷ ys) y h = ap Rattle.std.specs.Prelude.suc (pushed xs x ys y (suc_same (length xs) (length ys) h))

pub fits_new : (w : Catalog) → Fits no_store w
fits_new w = record { paired = refl; levels = refl }

-- right after a move it fits, whatever it was told
pub fits_next : (s : Store) (w : Catalog) (x : Move) (r : Option Reply) → Fits s w → Fits (store_next (committed_for w x) s x r) w
fits_next s w x r f = record {
  paired = pushed s.moves x s.told r f.paired;
  levels = ap (λ l. levels_next (committed_for w x) l x r) f.levels ∙ sym (levels-push w no_levels s.moves s.told x r f.paired);
}

-- ---- (2) another's commit

-- tables that agree on a definition and at one key
abbrev AlikeAt : PlainTerm → Option Table → Option Table → Type 0
AlikeAt k None None = Unit {0}
AlikeAt k (Some x) (Some y) = (x.def ≡ y.def) × (at x.rows k ≡ at y.rows k)
AlikeAt k None (Some y) = ⊥
AlikeAt k (Some x) None = ⊥

touch_same : (x y : Option Table) (v : Overlay) (c : Change) → AlikeAt (key_of_change c) x y → touch_in x v c ≡ touch_in y v c
touch_same None None v c a = refl
touch_same (Some x) (Some y) v c a = λ i. touch_one (TableDef.name (a.0 i)) (TableDef.kind (a.0 i)) (a.1 i)
  where
    touch_one : List ℕ → Kind → Rows → Overlay
    touch_one name kind here =
        insert_entry bytes_cmp (
          name,
          insert_entry term_cmp (term_value (key_of_change c), plain_terms (left kind (or_committed (lookup term_cmp (term_value (key_of_change c)) (touched v name)) here) c)) (touched v name),
        ) v
touch_same None (Some y) v c a = absurd a
touch_same (Some x) None v c a = absurd a

module _ (c : List ℕ → PlainTerm → Bool) (d : List ℕ → Bool) where
  alike_at : (w v : Catalog) (t : List ℕ) (k : PlainTerm) → Agree c d w v → d t ≡ true → c t k ≡ true → AlikeAt k (find w t) (find v t)
  alike_at w v t k a dt ck = cases (find w t) (find v t) (a t dt)
    where
      cases : (x y : Option Table) → AgreeTab (c t) x y → AlikeAt k x y
      cases None None g = tt
      cases (Some x) (Some y) g = (g.defs, g.cells k ck)
      cases None (Some y) g = absurd g
      cases (Some x) None g = absurd g

  same_levels : (w v : Catalog) (l : Levels) (h : Change) → Agree c d w v → d (table_of_change h) ≡ true → c (table_of_change h) (key_of_change h) ≡ true
      → changed (find w (table_of_change h)) l (Some h) ≡ changed (find v (table_of_change h)) l (Some h)
  same_levels w v l h a dt ck = ap (λ z. let n : Levels = record { now = record { overlay = z; updates = l.now.updates ++ h ∷ [] }; saved = l.saved } in n) (touch_same (find w (table_of_change h)) (find v (table_of_change h)) l.now.overlay h (alike_at w v (table_of_change h) (key_of_change h) a dt ck))

  same_next : (w v : Catalog) (l : Levels) (x : Move) (r : Option Reply) → Agree c d w v → SeesAll c d (x ∷ []) → levels_next (committed_for w x) l x r ≡ levels_next (committed_for v x) l x r
  same_next w v l (Do (op.Read t k)) r a s = refl
  same_next w v l (Do (op.ReadForWrite t k)) r a s = refl
  same_next w v l (Do (op.Write z)) r a s = ap (λ n. if is_failure r then ended l else n) (same_levels w v l (change.Write z) a s.0.0 s.0.1)
  same_next w v l (Do (op.Delete t k)) r a s = ap (λ n. if is_failure r then ended l else n) (same_levels w v l (change.Delete t k) a s.0.0 s.0.1)
  same_next w v l (Do (op.DeleteObject z)) r a s = ap (λ n. if is_failure r then ended l else n) (same_levels w v l (change.DeleteObject z) a s.0.0 s.0.1)
  same_next w v l (Do (op.IndexRead t z b)) r a s = refl
  same_next w v l (Do (op.MatchObject p)) r a s = refl
  same_next w v l (Do (op.AllKeys t)) r a s = refl
  same_next w v l (Do (op.ReadLockTable t)) r a s = refl
  same_next w v l (Do (op.WriteLockTable t)) r a s = refl
  same_next w v l Open r a s = refl
  same_next w v l Close r a s = refl
  same_next w v l Undo r a s = refl

  same_from : (w v : Catalog) (l : Levels) (xs : List Move) (rs : List (Option Reply)) → Agree c d w v → SeesAll c d xs → levels_from w l xs rs ≡ levels_from v l xs rs
  same_from w v l [] rs a s = refl
  same_from w v l (x ∷ xs) [] a s = refl
  same_from w v l (x ∷ xs) (r ∷ rs) a s = ap (λ n. levels_from w n xs rs) (same_next w v l x r a (s.0, tt)) ∙ same_from w v (levels_next (committed_for v x) l x r) xs rs a s.1

  -- it fits each catalog that agrees with one that it fits, on what the transaction sees
  pub fits_kept : (s : Store) (w v : Catalog) → Agree c d w v → SeesAll c d s.moves → Fits s w → Fits s v
  fits_kept s w v a e f = record { paired = f.paired; levels = f.levels ∙ same_from w v no_levels s.moves s.told a e }

-- what the one's locks cover stays as the other leaves it
agree_after : (w : Catalog) (a : ℕ) (xs ys : List Move) → IsOrderedCatalog w → Apart (locks_of xs) (locks_of ys) → Agree (seen (locks_of ys)) every w (after (start w a) xs).now
agree_after w a xs ys o h =
    let self = agree_self (seen (locks_of ys)) w o in
    let kept = keeps_after (seen (locks_of ys)) every w (start w a) xs (record { now = self; saved = tt; base = self }) (writes_apart xs (locks_of ys) h) in
    kept.now

-- another's commit whose locks do not conflict
pub fits_stays : (s : Store) (w : Catalog) (age : ℕ) (xs : List Move) → IsOrderedCatalog w → Apart (locks_of xs) (locks_of s.moves) → Fits s w → Fits s (after (start w age) xs).now
fits_stays s w age xs o h f = fits_kept (seen (locks_of s.moves)) every s w (after (start w age) xs).now (agree_after w age xs s.moves o h) (sees_own s.moves) f

-- a schema command on a table that no lock of the transaction is on
pub fits_schema : (s : Store) (w : Catalog) (c : Schema) → IsOrderedCatalog w → list_any (λ (l : Lock). bytes_eq l.table (table_of_schema c)) (locks_of s.moves) ≡ false → Fits s w → Fits s (schema_effect w c)
fits_schema s w c o h f =
    let t = table_of_schema c in
    fits_kept (no_cell_of t) (not_at t) s w (schema_effect w c) (λ u d. like_back (no_cell_of t u) (find (schema_effect w c) u) (find w u) (agree_elsewhere w c o u d)) (sees_not t s.moves h) f

-- ---- (3) the updates

updates_of : List Level → List (List Change)
updates_of ls = map (λ l. l.updates) ls

live : (w : Catalog) (l : Levels) (xs : List Move) (rs : List (Option Reply)) → (levels_from w l xs rs).now.updates ≡ survivors l.now.updates (map (λ z. z.updates) l.saved) xs rs
live w l [] rs = refl
live w l (x ∷ xs) [] = refl
live w l (Do o ∷ xs) (r ∷ rs) = by_case (is_failure r) (change_of_op o) (live w (ended l) xs rs) (live w (changed (find w (table_of o)) l (change_of_op o)) xs rs)
  where
    back_same : (ls : List Level) → survivors (ended_to ls).now.updates (map (λ z. z.updates) (ended_to ls).saved) xs rs ≡ survivors (top_level (map (λ z. z.updates) ls)) (drop_level (map (λ z. z.updates) ls)) xs rs
    back_same [] = refl
    back_same (y ∷ ls) = refl

    on_same : (h : Option Change) → survivors (changed (find w (table_of o)) l h).now.updates (map (λ z. z.updates) (changed (find w (table_of o)) l h).saved) xs rs ≡ survivors (with_change l.now.updates h) (map (λ z. z.updates) l.saved) xs rs
    on_same None = refl
    on_same (Some h) = refl

    by_case : (b : Bool) (h : Option Change)
        → (levels_from w (ended l) xs rs).now.updates ≡ survivors (ended l).now.updates (map (λ z. z.updates) (ended l).saved) xs rs
        → (levels_from w (changed (find w (table_of o)) l h) xs rs).now.updates ≡ survivors (changed (find w (table_of o)) l h).now.updates (map (λ z. z.updates) (changed (find w (table_of o)) l h).saved) xs rs
        → (levels_from w (if b then ended l else changed (find w (table_of o)) l h) xs rs).now.updates
        ≡ (if b then survivors (top_level (map (λ z. z.updates) l.saved)) (drop_level (map (λ z. z.updates) l.saved)) xs rs else survivors (with_change l.now.updates h) (map (λ z. z.updates) l.saved) xs rs)
    by_case true h p q = p ∙ back_same l.saved
    by_case false h p q = q ∙ on_same h
live w l (Open ∷ xs) (r ∷ rs) = live w (nested l) xs rs
live w l (Close ∷ xs) (r ∷ rs) = live w (joined l) xs rs ∙ ap (λ z. survivors l.now.updates z xs rs) (drop_same l.saved)
  where
    drop_same : (ls : List Level) → map (λ z. z.updates) (dropped ls) ≡ drop_level (map (λ z. z.updates) ls)
    drop_same [] = refl
    drop_same (y ∷ ls) = refl
live w l (Undo ∷ xs) (r ∷ rs) = live w (ended l) xs rs ∙ back_same l.saved
  where
    back_same : (ls : List Level) → survivors (ended_to ls).now.updates (map (λ z. z.updates) (ended_to ls).saved) xs rs ≡ survivors (top_level (map (λ z. z.updates) ls)) (drop_level (map (λ z. z.updates) ls)) xs rs
    back_same [] = refl
    back_same (y ∷ ls) = refl

pub updates_survive : (s : Store) (w : Catalog) → Fits s w → s.levels.now.updates ≡ surviving_changes s.moves s.told
updates_survive s w f = ap (λ (l : Levels). l.now.updates) f.levels ∙ live w no_levels s.moves s.told

-- ---- (4) what it shows

abbrev ShowsAll : Catalog → List Level → List Catalog → Type 0
ShowsAll w [] [] = Unit {0}
ShowsAll w (l ∷ ls) (n ∷ ns) = Shows w l.overlay n × ShowsAll w ls ns
ShowsAll w [] (n ∷ ns) = ⊥
ShowsAll w (l ∷ ls) [] = ⊥

record ShowsMid (w : Catalog) (l : Levels) (m : Mid) : Type 0 where
  now : Shows w l.now.overlay m.now
  saved : ShowsAll w l.saved m.saved
  base : m.base ≡ w

module _ (w : Catalog) (o : IsOrderedCatalog w) where
  shows_back : (l : Levels) (m : Mid) (ls : List Level) (ns : List Catalog) → m.base ≡ w → ShowsAll w ls ns → ShowsMid w (ended_to ls) (back_to m ns)
  shows_back l m [] [] b a = record { now = subst (λ n. Shows w [] n) (sym b) (shows_nothing w o); saved = tt; base = b }
  shows_back l m (x ∷ ls) (n ∷ ns) b a = record { now = a.0; saved = a.1; base = b }
  shows_back l m [] (n ∷ ns) b a = absurd a
  shows_back l m (x ∷ ls) [] b a = absurd a

  shows_dropped : (ls : List Level) (ns : List Catalog) → ShowsAll w ls ns → ShowsAll w (dropped ls) (without_innermost ns)
  shows_dropped [] [] a = tt
  shows_dropped (x ∷ ls) (n ∷ ns) a = a.1
  shows_dropped [] (n ∷ ns) a = absurd a
  shows_dropped (x ∷ ls) [] a = absurd a

  shows_changed : (l : Levels) (m : Mid) (h : Change) → ShowsMid w l m
      → ShowsMid w (changed (find w (table_of_change h)) l (Some h)) (record m { now = change_by m.now (Some h) })
  shows_changed l m h a = record { now = shows_touch w l.now.overlay m.now h a.now; saved = a.saved; base = a.base }

  shows_effect : (l : Levels) (m : Mid) (p : Operation) → ShowsMid w l m → ShowsMid w (changed (find w (table_of p)) l (change_of_op p)) (record m { now = effect m.now p })
  shows_effect l m (op.Read t k) a = record { now = a.now; saved = a.saved; base = a.base }
  shows_effect l m (op.ReadForWrite t k) a = record { now = a.now; saved = a.saved; base = a.base }
  shows_effect l m (op.Write z) a = shows_changed l m (change.Write z) a
  shows_effect l m (op.Delete t k) a = shows_changed l m (change.Delete t k) a
  shows_effect l m (op.DeleteObject z) a = shows_changed l m (change.DeleteObject z) a
  shows_effect l m (op.IndexRead t z b) a = record { now = a.now; saved = a.saved; base = a.base }
  shows_effect l m (op.MatchObject z) a = record { now = a.now; saved = a.saved; base = a.base }
  shows_effect l m (op.AllKeys t) a = record { now = a.now; saved = a.saved; base = a.base }
  shows_effect l m (op.ReadLockTable t) a = record { now = a.now; saved = a.saved; base = a.base }
  shows_effect l m (op.WriteLockTable t) a = record { now = a.now; saved = a.saved; base = a.base }

  shows_choice : (a b : Bool) (l l' : Levels) (m m' : Mid) → a ≡ b → ShowsMid w l m → ShowsMid w l' m' → ShowsMid w (if a then l else l') (if b then m else m')
  shows_choice true true l l' m m' e x y = x
  shows_choice false false l l' m m' e x y = y
  shows_choice true false l l' m m' e x y = cc
  shows_choice false true l l' m m' e x y = cc

  shows_next : (l : Levels) (m : Mid) (x : Move) → ShowsMid w l m → ShowsMid w (levels_next (committed_for w x) l x (reply_to m x)) (next m x)
  shows_next l m (Do p) a = shows_choice _ _ _ _ _ _ (reply_tells (find m.now (table_of p)) p) (shows_back l m l.saved m.saved a.base a.saved) (shows_effect l m p a)
  shows_next l m Open a = record { now = a.now; saved = (a.now, a.saved); base = a.base }
  shows_next l m Close a = record { now = a.now; saved = shows_dropped l.saved m.saved a.saved; base = a.base }
  shows_next l m Undo a = shows_back l m l.saved m.saved a.base a.saved

  shows_after : (l : Levels) (m : Mid) (xs : List Move) → ShowsMid w l m → ShowsMid w (levels_from w l xs (replies m xs)) (after m xs)
  shows_after l m [] a = a
  shows_after l m (x ∷ xs) a = shows_after (levels_next (committed_for w x) l x (reply_to m x)) (next m x) xs (shows_next l m x a)

  -- a store that fits, of a transaction that was told right: each table as the transaction sees it
  pub fits_shows : (s : Store) (age : ℕ) → Fits s w → replies (start w age) s.moves ≡ s.told → Shows w s.levels.now.overlay (after (start w age) s.moves).now
  fits_shows s age f h =
      let a : ShowsMid w (levels_from w no_levels s.moves (replies (start w age) s.moves)) (after (start w age) s.moves) = shows_after no_levels (start w age) s.moves (record { now = shows_nothing w o; saved = tt; base = refl }) in
      subst (λ (l : Levels). Shows w l.now.overlay (after (start w age) s.moves).now) (ap (levels_from w no_levels s.moves) h ∙ sym f.levels) a.now

  as_many : (ls : List Level) (ns : List Catalog) → ShowsAll w ls ns → length ns ≡ length ls
  as_many [] [] a = refl
  as_many (x ∷ ls) (n ∷ ns) a = ap Rattle.std.specs.Prelude.suc (as_many ls ns a.1)
  as_many [] (n ∷ ns) a = absurd a
  as_many (x ∷ ls) [] a = absurd a

  -- as many levels are open
  pub depth_shown : (s : Store) (age : ℕ) → Fits s w → replies (start w age) s.moves ≡ s.told → length (after (start w age) s.moves).saved ≡ length s.levels.saved
  depth_shown s age f h =
      let a : ShowsMid w (levels_from w no_levels s.moves (replies (start w age) s.moves)) (after (start w age) s.moves) = shows_after no_levels (start w age) s.moves (record { now = shows_nothing w o; saved = tt; base = refl }) in
      let b : ShowsMid w s.levels (after (start w age) s.moves) = subst (λ (l : Levels). ShowsMid w l (after (start w age) s.moves)) (ap (levels_from w no_levels s.moves) h ∙ sym f.levels) a in
      as_many s.levels.saved (after (start w age) s.moves).saved b.saved

  -- THE KEY CONTRACT
  pub cell_shown : (s : Store) (age : ℕ) (t : List ℕ) (x : Table) (k : PlainTerm) → Fits s w → replies (start w age) s.moves ≡ s.told → find w t ≡ Some x
      → seen_at (touched s.levels.now.overlay t) x.rows k ≡ cell (after (start w age) s.moves).now t k
  cell_shown s age t x k f h e = cases (find (after (start w age) s.moves).now t) (subst (λ z. ShowsIn (touched s.levels.now.overlay t) z (find (after (start w age) s.moves).now t)) e ((fits_shows s age f h).tables t))
    where
      cases : (y : Option Table) → ShowsIn (touched s.levels.now.overlay t) (Some x) y → seen_at (touched s.levels.now.overlay t) x.rows k ≡ at (rows_in y) k
      cases None g = absurd g
      cases (Some y) g = g.cells k

  -- a whole table, as the transaction sees it
  pub table_shown : (s : Store) (age : ℕ) (t : List ℕ) (x : Table) → Fits s w → replies (start w age) s.moves ≡ s.told → find w t ≡ Some x
      → IsSeen (touched s.levels.now.overlay t) x.rows (rows_of (after (start w age) s.moves).now t)
  table_shown s age t x f h e = cases (find (after (start w age) s.moves).now t) (subst (λ z. ShowsIn (touched s.levels.now.overlay t) z (find (after (start w age) s.moves).now t)) e ((fits_shows s age f h).tables t))
    where
      cases : (y : Option Table) → ShowsIn (touched s.levels.now.overlay t) (Some x) y → IsSeen (touched s.levels.now.overlay t) x.rows (rows_in y)
      cases None g = absurd g
      cases (Some y) g = record { ordered = g.ordered; cells = g.cells }

  -- no move changes a definition
  pub defs_shown : (age : ℕ) (xs : List Move) (t : List ℕ) → option_map (λ (x : Table). x.def) (find (after (start w age) xs).now t) ≡ option_map (λ (x : Table). x.def) (find w t)
  defs_shown age xs t =
      let l = levels_from w no_levels xs (replies (start w age) xs) in
      cases (touched l.now.overlay t) (find w t) (find (after (start w age) xs).now t) ((shows_after no_levels (start w age) xs (record { now = shows_nothing w o; saved = tt; base = refl })).now.tables t)
    where
      cases : (es : Touched) (x y : Option Table) → ShowsIn es x y → option_map (λ (z : Table). z.def) y ≡ option_map (λ (z : Table). z.def) x
      cases es None None g = refl
      cases es (Some x) (Some y) g = ap Some g.def
      cases es None (Some y) g = absurd g
      cases es (Some x) None g = absurd g
