-- What stands of a log after its oldest entry was folded into the base.
use Rattle.std.proofs.Common.{Option, ◌≡◌, ◌≢◌, ℕ, List, [], ◌∷◌, ◌++◌, Bool, true, false, refl, sym, ap, ◌∙◌, ◌↔◌, subst, append-nil, append_assoc, Some, None}
use Rattle.std.specs.Prelude.{◌==◌, ◌&&◌, ◌||◌, not, if◌then◌else◌, is_some}
use Rattle.std.specs.List.{filter}
use Rattle.std.specs.Str.{bytes_eq}
use Rattle.std.proofs.lemmas.Slice.Eq.{bytes_eq-Decides}
use Rattle.std.proofs.lemmas.Bool.{and_parts}
use Rattle.tab_model.specs.declared.data.Level.{Level}
use Rattle.tab_model.specs.declared.data.Entry.{Entry}
use Rattle.tab_model.specs.declared.data.Entry.TheVariants.{Committed, Changed, Subscribed, Unsubscribed}
use Rattle.tab_model.specs.declared.data.Reply.{Reply}
use Rattle.tab_model.specs.Catalogs.{Catalog}
use Rattle.tab_model.specs.Events.{surviving_changes, change_all}
use Rattle.tab_model.proofs.SurvivorsRight.{survivors_are}
use Rattle.tab_model.specs.Schemas.{removed_table, schema_refusal, schema_effect}
use Rattle.tab_model.specs.Log.{count_after, catalog_after, serial, serial_from, level_after, in_force_from, level_if, has_session, is_removed, IsRight, IsLegal, commits_from}
use Rattle.tab_model.specs.Slices.{expected_on, expected_items, slice_after, slice}
use Rattle.tab_model.specs.History.{tables_after, number_after, Subscription, Base, empty, is_of, level_at, in_force_since, expected_since, slice_since_after, slice_since, IsHistory, outlasts, with_subscription, subscriptions_after, after_fold, Admits, without_subscriber}
use Rattle.tab_model.proofs.SessionLists.{eq_true, itself, differs', serial-push, in_force-push, legal-push}

-- whose a subscription is
whose : (s : ℕ) (t : List ℕ) (x : Subscription) → is_of s t x ≡ true → (x.session ≡ s) × (x.table ≡ t)
whose s t x h = let p = and_parts (x.session == s) (bytes_eq x.table t) h in (eq_true x.session s p.0, (bytes_eq-Decides x.table t).0 p.1)

-- a filter that treats all subscriptions of a session to a table alike
level_filter : (p : Subscription → Bool) (c : Bool) (xs : List Subscription) (s : ℕ) (t : List ℕ)
    → ((x : Subscription) → is_of s t x ≡ true → p x ≡ c) → level_at (filter p xs) s t ≡ level_if c (level_at xs s t)
level_filter p true [] s t h = refl
level_filter p false [] s t h = refl
level_filter p c (x ∷ xs) s t h = cases (is_of s t x) (p x) c refl refl (h x) (level_filter p c xs s t h)
  where
    cases : (a b d : Bool) → is_of s t x ≡ a → p x ≡ b → (is_of s t x ≡ true → p x ≡ d) → level_at (filter p xs) s t ≡ level_if d (level_at xs s t)
        → level_at (filter p (x ∷ xs)) s t ≡ level_if d (level_at (x ∷ xs) s t)
    cases true b d e f g ih = ap (λ z. level_at (if z then x ∷ filter p xs else filter p xs) s t) (g e) ∙ kept d ih
      where
        kept : (d : Bool) → level_at (filter p xs) s t ≡ level_if d (level_at xs s t) → level_at (if d then x ∷ filter p xs else filter p xs) s t ≡ level_if d (level_at (x ∷ xs) s t)
        kept true ih = ap (λ z. if z then Some x.level else level_at (filter p xs) s t) e ∙ sym (ap (λ z. if z then Some x.level else level_at xs s t) e)
        kept false ih = ih
    cases false b d e f g ih = skipped b f ∙ ih ∙ sym (ap (λ z. level_if d (if z then Some x.level else level_at xs s t)) e)
      where
        skipped : (b : Bool) → p x ≡ b → level_at (filter p (x ∷ xs)) s t ≡ level_at (filter p xs) s t
        skipped true f = ap (λ z. level_at (if z then x ∷ filter p xs else filter p xs) s t) f ∙ ap (λ z. if z then Some x.level else level_at (filter p xs) s t) e
        skipped false f = ap (λ z. level_at (if z then x ∷ filter p xs else filter p xs) s t) f

some_none : (l : Level) → Some l ≡ None → ⊥
some_none l e = cc

-- one subscription more, behind the others
level_more : (xs : List Subscription) (x : Subscription) (s : ℕ) (t : List ℕ) → is_of s t x ≡ false → level_at (xs ++ x ∷ []) s t ≡ level_at xs s t
level_more [] x s t h = cc
level_more (y ∷ xs) x s t h = ap (λ b. if is_of s t y then Some y.level else b) (level_more xs x s t h)

level_new : (xs : List Subscription) (x : Subscription) (s : ℕ) (t : List ℕ) → is_of s t x ≡ true → level_at xs s t ≡ None → level_at (xs ++ x ∷ []) s t ≡ Some x.level
level_new [] x s t h n = cc
level_new (y ∷ xs) x s t h n = cases (is_of s t y) refl (level_new xs x s t h)
  where
    cases : (a : Bool) → is_of s t y ≡ a → (level_at xs s t ≡ None → level_at (xs ++ x ∷ []) s t ≡ Some x.level) → level_at (y ∷ xs ++ x ∷ []) s t ≡ Some x.level
    cases true e ih = absurd (some_none y.level (sym (ap (λ z. if z then Some y.level else level_at xs s t) e) ∙ n))
    cases false e ih = ap (λ z. if z then Some y.level else level_at (xs ++ x ∷ []) s t) e ∙ ih (sym (ap (λ z. if z then Some y.level else level_at xs s t) e) ∙ n)

same_names : (t : List ℕ) → bytes_eq t t ≡ true
same_names t = (bytes_eq-Decides t t).1 refl

own : (s : ℕ) (t : List ℕ) → ((s == s) && bytes_eq t t) ≡ true
own s t = λ i. itself s i && same_names t i

-- whether two pairs of a session and a table are one, the other way round
turned : (s x : ℕ) (t u : List ℕ) → ((x == s) && bytes_eq u t) ≡ false → ((s == x) && bytes_eq t u) ≡ false
turned s x t u h = cases ((s == x) && bytes_eq t u) refl
  where
    cases : (b : Bool) → ((s == x) && bytes_eq t u) ≡ b → b ≡ false
    cases false e = refl
    cases true e = let p = and_parts (s == x) (bytes_eq t u) e in
        let q : s ≡ x = eq_true s x p.0 in
        let r : t ≡ u = (bytes_eq-Decides t u).0 p.1 in
        sym (own s t) ∙ (λ i. (q i == s) && bytes_eq (r i) t) ∙ h

turned_all : (s x : ℕ) (t u : List ℕ) → ((s == x) && bytes_eq t u) ≡ ((x == s) && bytes_eq u t)
turned_all s x t u = cases ((x == s) && bytes_eq u t) refl
  where
    cases : (b : Bool) → ((x == s) && bytes_eq u t) ≡ b → ((s == x) && bytes_eq t u) ≡ b
    cases false e = turned s x t u e
    cases true e = let p = and_parts (x == s) (bytes_eq u t) e in
        let q : x ≡ s = eq_true x s p.0 in let r : u ≡ t = (bytes_eq-Decides u t).0 p.1 in
        (λ i. (s == q i) && bytes_eq t (r i)) ∙ own s t

not_joined : (s x : ℕ) → (x ≡ s → false ≡ true) → (x == s) ≡ false
not_joined s x h = differs' x s (λ e. false_true (h e))
  where
    false_true : false ≡ true → ⊥
    false_true e = cc

level_subscribed : (joined : Bool) (xs : List Subscription) (s x : ℕ) (t u : List ℕ) (l : Level) → (x ≡ s → joined ≡ true)
    → level_at (with_subscription joined xs (record { session = x; table = u; level = l })) s t ≡ (if (x == s) && bytes_eq u t then Some l else level_at xs s t)
level_subscribed false xs s x t u l h = sym (ap (λ z. if z && bytes_eq u t then Some l else level_at xs s t) (not_joined s x h))
level_subscribed true xs s x t u l h = cases ((x == s) && bytes_eq u t) refl
  where
    cases : (b : Bool) → ((x == s) && bytes_eq u t) ≡ b
        → level_at (filter (λ y. not (is_of x u y)) xs ++ record { session = x; table = u; level = l } ∷ []) s t ≡ (if (x == s) && bytes_eq u t then Some l else level_at xs s t)
    cases true e = let p = and_parts (x == s) (bytes_eq u t) e in
        let q : x ≡ s = eq_true x s p.0 in let r : u ≡ t = (bytes_eq-Decides u t).0 p.1 in
        level_new (filter (λ y. not (is_of x u y)) xs) (record { session = x; table = u; level = l }) s t e
        (level_filter (λ y. not (is_of x u y)) false xs s t (λ y h'. ap not ((λ i. is_of (q i) (r i) y) ∙ h')))
        ∙ sym (ap (λ z. if z then Some l else level_at xs s t) e)
    cases false e =
        level_more (filter (λ y. not (is_of x u y)) xs) (record { session = x; table = u; level = l }) s t e
        ∙ level_filter (λ y. not (is_of x u y)) true xs s t (λ y h'. let w = whose s t y h' in ap not ((λ i. (w.0 i == x) && bytes_eq (w.1 i) u) ∙ turned s x t u e))
        ∙ sym (ap (λ z. if z then Some l else level_at xs s t) e)

-- what a fold keeps of a session's level
level_folded : (joined : Bool) (xs : List Subscription) (s : ℕ) (t : List ℕ) (e : Entry) → Admits joined s e
    → level_at (subscriptions_after joined xs e) s t ≡ level_after s t (level_at xs s t) e
level_folded joined xs s t (Committed n x age ms rs over) h =
    level_filter (outlasts over None) (not (has_session over s)) xs s t (λ y h'. ap (λ z. not (has_session over z)) (whose s t y h').0)
level_folded joined xs s t (Changed c over) h =
    level_filter (outlasts over (removed_table c)) (not (is_removed t (removed_table c) || has_session over s)) xs s t
    (λ y h'. let w = whose s t y h' in λ i. not (is_removed (w.1 i) (removed_table c) || has_session over (w.0 i)))
level_folded joined xs s t (Subscribed x u l dump) h = level_subscribed joined xs s x t u l h
level_folded joined xs s t (Unsubscribed x u) h =
    level_filter (λ y. not (is_of x u y)) (not ((x == s) && bytes_eq u t)) xs s t
    (λ y h'. let w = whose s t y h' in ap not ((λ i. (w.0 i == x) && bytes_eq (w.1 i) u) ∙ turned_all s x t u))

pub in_force_folded : (joined : Bool) (b : Base) (s : ℕ) (t : List ℕ) (e : Entry) (log : List Entry) → Admits joined s e
    → in_force_since b s (e ∷ log) t ≡ in_force_since (after_fold joined b e) s log t
in_force_folded joined b s t e log h = ap (λ z. in_force_from s t z log) (sym (level_folded joined b.subscriptions s t e h))

unless_none : (o : Option Reply) (v w : Catalog) → o ≡ None → (if is_some o then w else v) ≡ v
unless_none None v w h = refl
unless_none (Some r) v w h = cc

-- of a right entry, what was told gives what running it gives
pub tables_right : (w : Catalog) (c : ℕ) (e : Entry) → IsRight w c e → tables_after w e ≡ catalog_after w e
tables_right w c (Committed n s age ms rs over) h = ap (λ z. change_all w (surviving_changes ms z)) (sym h.1) ∙ survivors_are w age ms
tables_right w c (Changed x over) h = unless_none (schema_refusal w x) (schema_effect w x) w h
tables_right w c (Subscribed s t l dump) h = refl
tables_right w c (Unsubscribed s t) h = refl

pub number_right : (w : Catalog) (c : ℕ) (e : Entry) → IsRight w c e → number_after c e ≡ count_after c e
number_right w c (Committed n s age ms rs over) h = h.0
number_right w c (Changed x over) h = refl
number_right w c (Subscribed s t l dump) h = refl
number_right w c (Unsubscribed s t) h = refl

slice_after_folded : (joined : Bool) (b : Base) (s : ℕ) (e : Entry) (log es : List Entry) → IsRight b.tables b.commits e → Admits joined s e
    → slice_since_after b s (e ∷ log) es ≡ slice_since_after (after_fold joined b e) s log es
slice_after_folded joined b s e log [] r h = refl
slice_after_folded joined b s e log (x ∷ es) r h =
    λ i. expected_on (serial_from (sym (tables_right b.tables b.commits e r) i) log) (λ t. in_force_folded joined b s t e log h i) s x ++ slice_after_folded joined b s e (log ++ x ∷ []) es r h i

-- the first entry's items, and then what the rest owes from the folded base
pub slice_folded : (joined : Bool) (b : Base) (s : ℕ) (e : Entry) (es : List Entry) → IsRight b.tables b.commits e → Admits joined s e
    → slice_since b s (e ∷ es) ≡ expected_since b s [] e ++ slice_since (after_fold joined b e) s es
slice_folded joined b s e es r h = ap (λ xs. expected_since b s [] e ++ xs) (slice_after_folded joined b s e [] es r h)

pub history_folded : (joined : Bool) (b : Base) (e : Entry) (es : List Entry) (w : Catalog) → IsHistory b (e ∷ es) w → IsHistory (after_fold joined b e) es w
history_folded joined b e es w h =
    let t = sym (tables_right b.tables b.commits e h.legal.0) in
    let n = sym (number_right b.tables b.commits e h.legal.0) in
    record {
      legal = subst (λ v. IsLegal v (number_after b.commits e) es) t (subst (λ (c : ℕ). IsLegal (catalog_after b.tables e) c es) n h.legal.1);
      ends = ap (λ v. serial_from v es) (sym t) ∙ h.ends;
    }

-- one entry more
pub in_force_more : (b : Base) (s : ℕ) (log : List Entry) (e : Entry) (t : List ℕ) → in_force_since b s (log ++ e ∷ []) t ≡ level_after s t (in_force_since b s log t) e
in_force_more b s log e t = in_force-push s t (level_at b.subscriptions s t) log e

slice_after_more : (b : Base) (s : ℕ) (before log : List Entry) (e : Entry) → slice_since_after b s before (log ++ e ∷ []) ≡ slice_since_after b s before log ++ expected_since b s (before ++ log) e
slice_after_more b s before [] e = append-nil _ ∙ ap (λ xs. expected_since b s xs e) (sym (append-nil before))
slice_after_more b s before (x ∷ log) e =
    ap (λ xs. expected_since b s before x ++ xs) (slice_after_more b s (before ++ x ∷ []) log e ∙ ap (λ xs. slice_since_after b s (before ++ x ∷ []) log ++ expected_since b s xs e) (append_assoc before (x ∷ []) log))
    ∙ sym (append_assoc (expected_since b s before x) _ _)

pub slice_more : (b : Base) (s : ℕ) (log : List Entry) (e : Entry) → slice_since b s (log ++ e ∷ []) ≡ slice_since b s log ++ expected_since b s log e
slice_more b s log e = slice_after_more b s [] log e

pub history_more : (b : Base) (log : List Entry) (e : Entry) (w : Catalog) → IsHistory b log w → IsRight w (commits_from b.commits log) e → IsHistory b (log ++ e ∷ []) (catalog_after w e)
history_more b log e w h r = record {
  legal = legal-push b.tables b.commits log e h.legal (subst (λ v. IsRight v (commits_from b.commits log) e) (sym h.ends) r);
  ends = serial-push b.tables log e ∙ ap (λ v. catalog_after v e) h.ends;
}

-- from the empty base
expected_empty : (s : ℕ) (log : List Entry) (e : Entry) → expected_since empty s log e ≡ expected_items s log e
expected_empty s log (Committed n x age xs rs over) = refl
expected_empty s log (Changed c over) = refl
expected_empty s log (Subscribed x t l dump) = refl
expected_empty s log (Unsubscribed x t) = refl

slice_after_empty : (s : ℕ) (log es : List Entry) → slice_since_after empty s log es ≡ slice_after s log es
slice_after_empty s log [] = refl
slice_after_empty s log (e ∷ es) = λ i. expected_empty s log e i ++ slice_after_empty s (log ++ e ∷ []) es i

pub slice_empty : (s : ℕ) (log : List Entry) → slice_since empty s log ≡ slice s log
slice_empty s log = slice_after_empty s [] log

pub history_empty : (log : List Entry) (w : Catalog) → IsHistory empty log w ↔ (IsLegal [] 0 log × (serial log ≡ w))
history_empty log w = ((λ h. (h.legal, h.ends)), λ h. record { legal = h.0; ends = h.1 })

-- a session that has left is forgotten: nothing changes for the others
pub in_force_forgotten : (b : Base) (s q : ℕ) (log : List Entry) (t : List ℕ) → q ≢ s → in_force_since (without_subscriber b q) s log t ≡ in_force_since b s log t
in_force_forgotten b s q log t h = ap (λ z. in_force_from s t z log)
    (level_filter (λ x. not (x.session == q)) true b.subscriptions s t (λ x h'. ap (λ n. not (n == q)) (whose s t x h').0 ∙ ap not (differs' s q (λ e. h (sym e)))))

slice_after_forgotten : (b : Base) (s q : ℕ) (log es : List Entry) → q ≢ s → slice_since_after (without_subscriber b q) s log es ≡ slice_since_after b s log es
slice_after_forgotten b s q log [] h = refl
slice_after_forgotten b s q log (e ∷ es) h =
    λ i. expected_on (serial_from b.tables log) (λ t. in_force_forgotten b s q log t h i) s e ++ slice_after_forgotten b s q (log ++ e ∷ []) es h i

pub slice_forgotten : (b : Base) (s q : ℕ) (log : List Entry) → q ≢ s → slice_since (without_subscriber b q) s log ≡ slice_since b s log
slice_forgotten b s q log h = slice_after_forgotten b s q [] log h

pub history_forgotten : (b : Base) (q : ℕ) (log : List Entry) (w : Catalog) → IsHistory b log w → IsHistory (without_subscriber b q) log w
history_forgotten b q log w h = record { legal = h.legal; ends = h.ends }

-- and of itself nothing is left
pub level_forgotten : (b : Base) (s : ℕ) (t : List ℕ) → level_at (without_subscriber b s).subscriptions s t ≡ None
level_forgotten b s t = level_filter (λ x. not (x.session == s)) false b.subscriptions s t (λ x h. ap (λ n. not (n == s)) (whose s t x h).0 ∙ ap not (itself s))
