-- Locks that do not conflict: what the one transaction sees, the other does not write.
use Rattle.std.proofs.Common.{◌≡◌, ℕ, List, [], ◌∷◌, Bool, true, false, ◌||◌, ◌&&◌, refl, sym, ap, ◌∙◌, Option, Some, None}
use Rattle.std.specs.Str.{bytes_eq}
use Rattle.std.specs.List.{list_any}
use Rattle.std.proofs.lemmas.Bool.{false≢true, or_parts, or_right, or_from}
use Rattle.std.proofs.lemmas.Slice.Eq.{bytes_eq-Decides}
use Rattle.tab_term.specs.Data.{PlainTerm}
use Rattle.tab_term.specs.Same.{same}
use Rattle.tab_term.specs.View.{term}
use Rattle.tab_model.specs.declared.data.Operation.{Operation}
use Rattle.tab_model.specs.declared.data.Operation.TheVariants as op
use Rattle.tab_model.specs.declared.data.Move.{Move}
use Rattle.tab_model.specs.declared.data.Move.TheVariants.{Do, Open, Close, Undo}
use Rattle.tab_model.specs.Tables.{key}
use Rattle.tab_model.specs.Catalogs.{Catalog, Table, find}
use Rattle.tab_model.specs.Operations.{table_of}
use Rattle.tab_model.specs.Alone.{start, after, replies}
use Rattle.tab_model.specs.Locks.{Part, All, Key, Lock, lock, needs, locks_of, meets, conflict, Apart}
use Rattle.tab_model.specs.Catalogs.{IsOrderedCatalog}
use Rattle.tab_model.proofs.TableLaws.{same_true, same_refl}
use Rattle.tab_model.proofs.RepliesStay.{AgreeTab, Agree, SeesPart, SeesAll, same_replies, WritesAll, keeps_after}

covers_cell : Lock → List ℕ → PlainTerm → Bool
covers_cell l t k = bytes_eq l.table t && meets l.part (Key k)

pub seen : List Lock → List ℕ → PlainTerm → Bool
seen [] t k = false
seen (l ∷ ls) t k = covers_cell l t k || seen ls t k

-- every table
abbrev pub every : List ℕ → Bool
every t = true

mono_part : (p q : PlainTerm → Bool) → ((k : PlainTerm) → p k ≡ true → q k ≡ true) → (part : Part) → SeesPart p part → SeesPart q part
mono_part p q h All s = λ k. h k (s k)
mono_part p q h (Key k) s = h k s

more_seen : (m : Lock) (ls : List Lock) (xs : List Move) → SeesAll (seen ls) every xs → SeesAll (seen (m ∷ ls)) every xs
unfolding seen
more_seen m ls [] s = tt
more_seen m ls (Do o ∷ xs) s = ((s.0.0, mono_part (seen ls (table_of o)) (seen (m ∷ ls) (table_of o)) (λ k h. or_right (covers_cell m (table_of o) k) (seen ls (table_of o) k) h) (needs o).part s.0.1), more_seen m ls xs s.1)
more_seen m ls (Open ∷ xs) s = (tt, more_seen m ls xs s.1)
more_seen m ls (Close ∷ xs) s = (tt, more_seen m ls xs s.1)
more_seen m ls (Undo ∷ xs) s = (tt, more_seen m ls xs s.1)

own : (t : List ℕ) (p : Part) (w : Bool) (ls : List Lock) → SeesPart (seen (lock t p w ∷ ls) t) p
unfolding seen covers_cell
own t All w ls = λ k. ap (λ b. (b && true) || seen ls t k) ((bytes_eq-Decides t t).1 refl)
own t (Key j) w ls = ap (λ b. (b && same j j) || seen ls t j) ((bytes_eq-Decides t t).1 refl) ∙ ap (λ b. b || seen ls t j) (same_refl j)

own_op : (o : Operation) (ls : List Lock) → SeesPart (seen (needs o ∷ ls) (table_of o)) (needs o).part
own_op (op.Read t k) ls = own t (needs (op.Read t k)).part (needs (op.Read t k)).write ls
own_op (op.ReadForWrite t k) ls = own t (needs (op.ReadForWrite t k)).part (needs (op.ReadForWrite t k)).write ls
own_op (op.Write r) ls = own (table_of (op.Write r)) (needs (op.Write r)).part (needs (op.Write r)).write ls
own_op (op.Delete t k) ls = own t (needs (op.Delete t k)).part (needs (op.Delete t k)).write ls
own_op (op.DeleteObject r) ls = own (table_of (op.DeleteObject r)) (needs (op.DeleteObject r)).part (needs (op.DeleteObject r)).write ls
own_op (op.IndexRead t x a) ls = own t All false ls
own_op (op.MatchObject p) ls = own (table_of (op.MatchObject p)) (needs (op.MatchObject p)).part false ls
own_op (op.AllKeys t) ls = own t All false ls
own_op (op.ReadLockTable t) ls = own t All false ls
own_op (op.WriteLockTable t) ls = own t All true ls

pub sees_own : (xs : List Move) → SeesAll (seen (locks_of xs)) every xs
sees_own [] = tt
sees_own (Do o ∷ xs) = ((refl, own_op o (locks_of xs)), more_seen (needs o) (locks_of xs) xs (sees_own xs))
sees_own (Open ∷ xs) = (tt, sees_own xs)
sees_own (Close ∷ xs) = (tt, sees_own xs)
sees_own (Undo ∷ xs) = (tt, sees_own xs)

same_sym : (a b : PlainTerm) → same a b ≡ false → same b a ≡ false
same_sym a b h = cases (same b a) refl
  where
    cases : (v : Bool) → same b a ≡ v → v ≡ false
    cases false e = refl
    cases true e = absurd (false≢true (sym h ∙ ap (same a) (same_true b a e) ∙ same_refl a))

meets_sym : (k : PlainTerm) (p : Part) → meets (Key k) p ≡ false → meets p (Key k) ≡ false
meets_sym k All h = h
meets_sym k (Key j) h = same_sym k j h

-- a cell that is written under a lock in conflict with none of these is covered by none of these
one_unseen : (t : List ℕ) (k : PlainTerm) (m : Lock) → conflict (lock t (Key k) true) m ≡ false → covers_cell m t k ≡ false
unfolding covers_cell
one_unseen t k m h = cases (bytes_eq m.table t) refl
  where
    cases : (b : Bool) → bytes_eq m.table t ≡ b → (b && meets m.part (Key k)) ≡ false
    cases false e = refl
    cases true e = meets_sym k m.part (sym (ap (λ b. b && meets (Key k) m.part) (ap (λ n. bytes_eq n m.table) (sym ((bytes_eq-Decides m.table t).0 e)) ∙ (bytes_eq-Decides m.table m.table).1 refl)) ∙ h)

unseen : (t : List ℕ) (k : PlainTerm) (ms : List Lock) → list_any (conflict (lock t (Key k) true)) ms ≡ false → seen ms t k ≡ false
unfolding seen
unseen t k [] h = refl
unseen t k (m ∷ ms) h = let p = or_parts (conflict (lock t (Key k) true) m) (list_any (conflict (lock t (Key k) true)) ms) h in or_from (covers_cell m t k) (seen ms t k) (one_unseen t k m p.0) (unseen t k ms p.1)

pub writes_apart : (xs : List Move) (ms : List Lock) → Apart (locks_of xs) ms → WritesAll (seen ms) every xs
writes_apart [] ms h = tt
writes_apart (Do (op.Read t k) ∷ xs) ms h = (tt, writes_apart xs ms (or_parts (list_any (conflict (needs (op.Read t k))) ms) _ h).1)
writes_apart (Do (op.ReadForWrite t k) ∷ xs) ms h = (tt, writes_apart xs ms (or_parts (list_any (conflict (needs (op.ReadForWrite t k))) ms) _ h).1)
writes_apart (Do (op.Write r) ∷ xs) ms h = let p = or_parts (list_any (conflict (needs (op.Write r))) ms) _ h in ((refl, unseen (table_of (op.Write r)) (key (term r)) ms p.0), writes_apart xs ms p.1)
writes_apart (Do (op.Delete t k) ∷ xs) ms h = let p = or_parts (list_any (conflict (needs (op.Delete t k))) ms) _ h in ((refl, unseen t (term k) ms p.0), writes_apart xs ms p.1)
writes_apart (Do (op.DeleteObject r) ∷ xs) ms h = let p = or_parts (list_any (conflict (needs (op.DeleteObject r))) ms) _ h in ((refl, unseen (table_of (op.DeleteObject r)) (key (term r)) ms p.0), writes_apart xs ms p.1)
writes_apart (Do (op.IndexRead t x a) ∷ xs) ms h = (tt, writes_apart xs ms (or_parts (list_any (conflict (needs (op.IndexRead t x a))) ms) _ h).1)
writes_apart (Do (op.MatchObject p) ∷ xs) ms h = (tt, writes_apart xs ms (or_parts (list_any (conflict (needs (op.MatchObject p))) ms) _ h).1)
writes_apart (Do (op.AllKeys t) ∷ xs) ms h = (tt, writes_apart xs ms (or_parts (list_any (conflict (needs (op.AllKeys t))) ms) _ h).1)
writes_apart (Do (op.ReadLockTable t) ∷ xs) ms h = (tt, writes_apart xs ms (or_parts (list_any (conflict (needs (op.ReadLockTable t))) ms) _ h).1)
writes_apart (Do (op.WriteLockTable t) ∷ xs) ms h = (tt, writes_apart xs ms (or_parts (list_any (conflict (needs (op.WriteLockTable t))) ms) _ h).1)
writes_apart (Open ∷ xs) ms h = (tt, writes_apart xs ms h)
writes_apart (Close ∷ xs) ms h = (tt, writes_apart xs ms h)
writes_apart (Undo ∷ xs) ms h = (tt, writes_apart xs ms h)

pub agree_self : (c : List ℕ → PlainTerm → Bool) (w : Catalog) → IsOrderedCatalog w → Agree c every w w
agree_self c w o t d = cases (find w t) refl
  where
    cases : (x : Option Table) → find w t ≡ x → AgreeTab (c t) x x
    cases None e = tt
    cases (Some x) e = record { defs = refl; cells = λ k h. refl; ordered = o t x e; ordered' = o t x e }

pub like_back : (c : PlainTerm → Bool) (x y : Option Table) → AgreeTab c x y → AgreeTab c y x
like_back c None None a = tt
like_back c (Some x) (Some y) a = record { defs = sym a.defs; cells = λ k h. sym (a.cells k h); ordered = a.ordered'; ordered' = a.ordered }
like_back c None (Some y) a = absurd a
like_back c (Some x) None a = absurd a

-- THE HEART: what the one sees stays as the other leaves it
pub stays : (w : Catalog) (a b : ℕ) (xs ys : List Move) → IsOrderedCatalog w → Apart (locks_of xs) (locks_of ys) → replies (start (after (start w a) xs).now b) ys ≡ replies (start w b) ys
stays w a b xs ys o h =
    let self = agree_self (seen (locks_of ys)) w o in
    let kept = keeps_after (seen (locks_of ys)) every w (start w a) xs (record { now = self; saved = tt; base = self }) (writes_apart xs (locks_of ys) h) in
    let back : Agree (seen (locks_of ys)) every (after (start w a) xs).now w = λ t d. like_back (seen (locks_of ys) t) (find w t) (find (after (start w a) xs).now t) (kept.now t d) in
    same_replies (seen (locks_of ys)) every (start (after (start w a) xs).now b) (start w b) ys (record { age = refl; now = back; saved = tt; base = back }) (sees_own ys)
