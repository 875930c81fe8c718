-- Looking up sessions, and logs with one entry more.
use Rattle.std.proofs.Common.{◌≡◌, ◌≢◌, ℕ, List, [], ◌∷◌, ◌++◌, true, false, refl, sym, ap, ◌∙◌, arith, append-nil, append_assoc, Option, Some, None}
use Rattle.std.specs.Prelude.{◌==◌, if◌then◌else◌, map}
use Rattle.std.proofs.lemmas.Bool.Decides.{nat_tests}
use Rattle.tab_model.specs.declared.data.Level.{Level}
use Rattle.tab_model.specs.declared.data.Entry.{Entry}
use Rattle.tab_model.specs.Catalogs.{Catalog}
use Rattle.tab_model.specs.Log.{catalog_after, serial, serial_from, level_after, in_force, in_force_from, IsRight, count_after, IsLegal, commits_from}
use Rattle.tab_model.specs.Slices.{expected_items, slice_after, slice}
use Rattle.tab_model.specs.State.{Session, session_at}
use Rattle.tab_model.specs.Outcome.{with_changed, without_session}

pub eq_true : (q t : ℕ) → (q == t) ≡ true → q ≡ t
eq_true q t h = grind (arith, nat_tests)

pub other_number : (q n : ℕ) → (q == n) ≡ false → q ≡ n → ⊥
other_number q n e f = grind (arith, nat_tests)

pub differs : (q n : ℕ) → q ≢ n → (n == q) ≡ false
differs q n h = grind (arith, nat_tests)

pub differs' : (q n : ℕ) → q ≢ n → (q == n) ≡ false
differs' q n h = grind (arith, nat_tests)

pub itself : (n : ℕ) → (n == n) ≡ true
itself n = grind (arith, nat_tests)

pub found : (sessions : List Session) (s : Session) (n : ℕ) → session_at sessions n ≡ Some s → s.number ≡ n
found [] s n e = cc
found (x ∷ xs) s n e = grind (arith, nat_tests, found xs s n)

pub session_at-change : (sessions : List Session) (s old : Session) (q : ℕ) → session_at sessions s.number ≡ Some old → session_at (with_changed sessions s) q ≡ (if q == s.number then Some s else session_at sessions q)
session_at-change [] s old q e = cc
session_at-change (x ∷ xs) s old q e = grind (arith, nat_tests, session_at-change xs s old q)

pub session_at-push : (sessions : List Session) (s : Session) (q : ℕ) → session_at sessions s.number ≡ None → session_at (sessions ++ s ∷ []) q ≡ (if q == s.number then Some s else session_at sessions q)
session_at-push [] s q e = grind (arith, nat_tests)
session_at-push (x ∷ xs) s q e = grind (arith, nat_tests, session_at-push xs s q)

pub session_at-without : (sessions : List Session) (n q : ℕ) → session_at (without_session sessions n) q ≡ (if q == n then None else session_at sessions q)
session_at-without [] n q = grind (arith, nat_tests)
session_at-without (x ∷ xs) n q = grind (arith, nat_tests, session_at-without xs n q)

unfoldable pub mapped : (f : Session → Session) (o : Option Session) → Option Session
mapped f None = None
mapped f (Some s) = Some (f s)

pub session_at-map : (f : Session → Session) → ((s : Session) → (f s).number ≡ s.number) → (sessions : List Session) (q : ℕ) → session_at (map f sessions) q ≡ mapped f (session_at sessions q)
unfolding mapped
session_at-map f h [] q = refl
session_at-map f h (x ∷ xs) q = grind (arith, nat_tests, h x, session_at-map f h xs q)

pub mapped_some : (f : Session → Session) (o : Option Session) (s : Session) → mapped f o ≡ Some s → (x : Session) × (o ≡ Some x) × (f x ≡ s)
unfolding mapped
mapped_some f None s e = cc
mapped_some f (Some x) s e = (x, refl, cc)

pub serial-push : (w : Catalog) (log : List Entry) (e : Entry) → serial_from w (log ++ e ∷ []) ≡ catalog_after (serial_from w log) e
serial-push w [] e = refl
serial-push w (x ∷ log) e = serial-push (catalog_after w x) log e

pub in_force-push : (s : ℕ) (t : List ℕ) (b : Option Level) (log : List Entry) (e : Entry) → in_force_from s t b (log ++ e ∷ []) ≡ level_after s t (in_force_from s t b log) e
in_force-push s t b [] e = refl
in_force-push s t b (x ∷ log) e = in_force-push s t (level_after s t b x) log e

pub commits-push : (c : ℕ) (log : List Entry) (e : Entry) → commits_from c (log ++ e ∷ []) ≡ count_after (commits_from c log) e
commits-push c [] e = refl
commits-push c (x ∷ log) e = commits-push (count_after c x) log e

slice_after-push : (s : ℕ) (before log : List Entry) (e : Entry) → slice_after s before (log ++ e ∷ []) ≡ slice_after s before log ++ expected_items s (before ++ log) e
slice_after-push s before [] e = append-nil _ ∙ ap (λ xs. expected_items s xs e) (sym (append-nil before))
slice_after-push s before (x ∷ log) e =
    ap (λ xs. expected_items s before x ++ xs) (slice_after-push s (before ++ x ∷ []) log e ∙ ap (λ xs. slice_after s (before ++ x ∷ []) log ++ expected_items s xs e) (append_assoc before (x ∷ []) log))
    ∙ sym (append_assoc (expected_items s before x) _ _)

-- the slice of a log with one entry more is the slice of the log, and then what the entry owes
pub slice-push : (s : ℕ) (log : List Entry) (e : Entry) → slice s (log ++ e ∷ []) ≡ slice s log ++ expected_items s log e
slice-push s log e = slice_after-push s [] log e

pub legal-push : (w : Catalog) (c : ℕ) (log : List Entry) (e : Entry) → IsLegal w c log → IsRight (serial_from w log) (commits_from c log) e → IsLegal w c (log ++ e ∷ [])
legal-push w c [] e l r = (r, tt)
legal-push w c (x ∷ log) e l r = (l.0, legal-push (catalog_after w x) (count_after c x) log e l.1 r)

-- the same of a log from its beginning
pub serial_more : (log : List Entry) (e : Entry) → serial (log ++ e ∷ []) ≡ catalog_after (serial log) e
serial_more log e = serial-push [] log e

pub in_force_more : (s : ℕ) (log : List Entry) (e : Entry) (t : List ℕ) → in_force s (log ++ e ∷ []) t ≡ level_after s t (in_force s log t) e
in_force_more s log e t = in_force-push s t None log e

pub legal_more : (log : List Entry) (e : Entry) → IsLegal [] 0 log → IsRight (serial log) (commits_from 0 log) e → IsLegal [] 0 (log ++ e ∷ [])
legal_more log e l r = legal-push [] 0 log e l r

pub slice_more : (s : ℕ) (log : List Entry) (e : Entry) → slice s (log ++ e ∷ []) ≡ slice s log ++ expected_items s log e
slice_more s log e = slice-push s log e
