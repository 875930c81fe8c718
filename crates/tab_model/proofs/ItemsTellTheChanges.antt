-- The items since a subscription tell the changes since.
use Rattle.std.proofs.Common.{◌≡◌, ℕ, ◌<◌, List, [], ◌∷◌, ◌++◌, Bool, true, false, refl, sym, ap, ◌∙◌, subst, append-nil, append_assoc, Option, Some, None}
use Rattle.std.proofs.lemmas.Bool.{or_parts}
use Rattle.std.specs.Prelude.{if◌then◌else◌, ◌==◌}
use Rattle.std.specs.Str.{bytes_eq}
use Rattle.std.specs.List.{filter, list_any, filter_map, cons_option}
use Rattle.tab_term.specs.Data.{PlainTerm}
use Rattle.tab_model.specs.declared.data.Level.{Level}
use Rattle.tab_model.specs.declared.data.Change.{Change}
use Rattle.tab_model.specs.declared.data.Event.{Event}
use Rattle.tab_model.specs.declared.data.Item.{Item}
use Rattle.tab_model.specs.declared.data.Item.TheVariants.{Began, Batch, Ended}
use Rattle.tab_model.specs.declared.data.Entry.{Entry}
use Rattle.tab_model.specs.declared.data.Entry.TheVariants.{Committed, Changed, Subscribed, Unsubscribed}
use Rattle.tab_model.specs.Names.{terms_list}
use Rattle.tab_model.specs.Catalogs.{Catalog}
use Rattle.tab_model.specs.Operations.{table_of_change, change_catalog}
use Rattle.tab_model.specs.Events.{surviving_changes, event_of, events}
use Rattle.tab_model.specs.Schemas.{removed_table}
use Rattle.tab_model.specs.Shapes.{shape, change_of}
use Rattle.tab_model.specs.Log.{has_session, level_after, in_force, in_force_from, catalog_after, serial, IsRight, IsLegal, count_after, commits_from}
use Rattle.tab_model.specs.Slices.{as_batch, shape_at, batch_for, ended_item, end_for, unless_over, expected_items, slice_after, slice, dump_of}
use Rattle.tab_model.specs.Since.{is_of, changes_in, changes_on, is_end_of, is_subscription_of, IsInForceSince, changes_in_items, HasAge, AllAged}
use Rattle.tab_model.proofs.SessionLists.{in_force-push, serial-push}
use Rattle.tab_model.proofs.EventsGiveTheRows.{legal-rest, terms_back}
use Rattle.tab_model.proofs.InForce.{stands_on, own_entry}
use Rattle.tab_model.proofs.ShapeLaws.{shape_tells}
use Rattle.tab_model.proofs.RepliesStay.{eq_names}
use Rattle.tab_model.proofs.SurvivorsWellFormed.{IsGood, good_serial, WholeAll, surviving_whole}

told-append : (t : List ℕ) (xs ys : List Item) → changes_in_items t (xs ++ ys) ≡ changes_in_items t xs ++ changes_in_items t ys
told-append t [] ys = refl
told-append t (Began u l dump ∷ xs) ys = told-append t xs ys
told-append t (Batch n es ∷ xs) ys = ap (λ zs. filter (is_of t) (filter_map change_of (terms_list es)) ++ zs) (told-append t xs ys) ∙ sym (append_assoc (filter (is_of t) (filter_map change_of (terms_list es))) _ _)
told-append t (Ended u ending ∷ xs) ys = told-append t xs ys

-- a batch tells what its terms tell
batch_tells : (t : List ℕ) (n : ℕ) (es : List PlainTerm) → changes_in_items t (as_batch n es) ≡ filter (is_of t) (filter_map change_of es)
batch_tells t n [] = refl
batch_tells t n (e ∷ es) = append-nil _ ∙ ap (λ (xs : List PlainTerm). filter (is_of t) (filter_map change_of xs)) (terms_back (e ∷ es))

-- the events of changes at the levels of a session that watches t
events_tell : (levels : List ℕ → Option Level) (t : List ℕ) (l : Level) (w : Catalog) (age : ℕ) (cs : List Change) → levels t ≡ Some l → 0 < age → WholeAll cs
    → filter (is_of t) (filter_map change_of (filter_map (λ (e : Event). shape_at (levels e.tab) e) (events w age cs))) ≡ filter (is_of t) cs
events_tell levels t l w age [] h a k = refl
events_tell levels t l w age (c ∷ cs) h a k = cases (events_tell levels t l (change_catalog w c) age cs h a k.1) (levels (table_of_change c)) refl (bytes_eq (table_of_change c) t) refl
  where
    rest : List PlainTerm
    rest = filter_map (λ (e : Event). shape_at (levels e.tab) e) (events (change_catalog w c) age cs)

    told_one : (m : Level) → change_of (shape m (event_of w age c)) ≡ Some c
    told_one m = shape_tells m (event_of w age c) (record { whole = k.0; table = refl; age = a })

    cases : filter (is_of t) (filter_map change_of rest) ≡ filter (is_of t) cs
        → (o : Option Level) → levels (table_of_change c) ≡ o → (b : Bool) → bytes_eq (table_of_change c) t ≡ b
        → filter (is_of t) (filter_map change_of (cons_option (shape_at o (event_of w age c)) rest)) ≡ (if b then c ∷ filter (is_of t) cs else filter (is_of t) cs)
    cases ih None e true f = let g : Some l ≡ None = sym h ∙ ap levels (sym (eq_names (table_of_change c) t f)) ∙ e in cc
    cases ih None e false f = ih
    cases ih (Some m) e b f =
        ap (λ (o : Option Change). filter (is_of t) (cons_option o (filter_map change_of rest))) (told_one m)
        ∙ ap (λ z. if z then c ∷ filter (is_of t) (filter_map change_of rest) else filter (is_of t) (filter_map change_of rest)) f
        ∙ ap (λ (zs : List Change). if b then c ∷ zs else zs) ih

-- what one entry that doesn't end it tells
entry_tells : (s : ℕ) (t : List ℕ) (l : Level) (before : List Entry) (n : ℕ) (e : Entry) → IsGood (serial before) → IsRight (serial before) n e → HasAge e → in_force s before t ≡ Some l → is_end_of s t e ≡ false
    → changes_in_items t (expected_items s before e) ≡ changes_in t e
entry_tells s t l before n (Committed m x age xs rs over) g r a h q =
    ap (λ b. changes_in_items t (unless_over b (batch_for (in_force s before) m (events (serial before) age (surviving_changes xs rs))))) q
    ∙ batch_tells t m (filter_map (λ (e : Event). shape_at (in_force s before e.tab) e) (events (serial before) age (surviving_changes xs rs)))
    ∙ events_tell (in_force s before) t l (serial before) age (surviving_changes xs rs) h a
    (subst (λ q. WholeAll (surviving_changes xs q)) r.1 (surviving_whole (serial before) age xs g))
entry_tells s t l before n (Changed c over) g r a h q = by_over (has_session over s) (removed_table c)
  where
    by_level : (u : List ℕ) (o : Option Level) → changes_in_items t (ended_item u o) ≡ []
    by_level u None = refl
    by_level u (Some m) = refl

    by_over : (b : Bool) (o : Option (List ℕ)) → changes_in_items t (unless_over b (end_for (in_force s before) o)) ≡ []
    by_over true o = refl
    by_over false None = refl
    by_over false (Some u) = by_level u (in_force s before u)
entry_tells s t l before n (Subscribed x u m dump) g r a h q = by_session (x == s)
  where
    by_session : (b : Bool) → changes_in_items t (if b then Began u m (dump_of (serial before) u dump) ∷ [] else []) ≡ []
    by_session true = refl
    by_session false = refl
entry_tells s t l before n (Unsubscribed x u) g r a h q = by_session (x == s)
  where
    by_session : (b : Bool) → changes_in_items t (if b then Ended u Rattle.tab_model.specs.declared.data.Ending.TheVariants.Unsubscribed ∷ [] else []) ≡ []
    by_session true = refl
    by_session false = refl

-- and all since
since_tells : (s : ℕ) (t : List ℕ) (l : Level) (before since : List Entry) (n : ℕ) → IsGood (serial before) → IsLegal (serial before) n since → AllAged since → in_force s before t ≡ Some l
    → list_any (is_end_of s t) since ≡ false → list_any (is_subscription_of s t) since ≡ false → changes_in_items t (slice_after s before since) ≡ changes_on t since
since_tells s t l before [] n g r a h q p = refl
since_tells s t l before (e ∷ since) n g r a h q p =
    let ended = or_parts (is_end_of s t e) (list_any (is_end_of s t) since) q in
    let anew = or_parts (is_subscription_of s t e) (list_any (is_subscription_of s t) since) p in
    let next : serial (before ++ e ∷ []) ≡ catalog_after (serial before) e = serial-push [] before e in
    told-append t (expected_items s before e) (slice_after s (before ++ e ∷ []) since)
    ∙ (λ i. entry_tells s t l before n e g r.0 a.0 h ended.0 i
    ++ since_tells s t l (before ++ e ∷ []) since (count_after n e) (good_serial [] (before ++ e ∷ []) (λ m x f. cc)) (subst (λ (w : Catalog). IsLegal w (count_after n e) since) (sym next) r.1) a.1
    (in_force-push s t None before e ∙ ap (λ b. level_after s t b e) h ∙ stands_on s t (Some l) e ended.0 anew.0) ended.1 anew.1 i)

aged-rest : (xs ys : List Entry) → AllAged (xs ++ ys) → AllAged ys
aged-rest [] ys a = a
aged-rest (x ∷ xs) ys a = aged-rest xs ys a.1

-- what a session's items since a subscription that stands tell are the changes since
pub items_tell : (s : ℕ) (t : List ℕ) (l : Level) (log : List Entry) → IsLegal [] 0 log → AllAged log → (i : IsInForceSince s t l log) → changes_in_items t (slice_after s (i.earlier ++ Subscribed s t l i.dump ∷ []) i.since) ≡ changes_on t i.since
items_tell s t l log legal aged i =
    let first : Entry = Subscribed s t l i.dump in
    let whole : IsLegal [] 0 (i.earlier ++ first ∷ i.since) = subst (λ (es : List Entry). IsLegal [] 0 es) i.is legal in
    let ages : AllAged (i.earlier ++ first ∷ i.since) = subst (λ (es : List Entry). AllAged es) i.is aged in
    let rest = legal-rest [] 0 i.earlier (first ∷ i.since) whole in
    since_tells s t l (i.earlier ++ first ∷ []) i.since (commits_from 0 i.earlier) (good_serial [] (i.earlier ++ first ∷ []) (λ m x f. cc))
    (subst (λ (w : Catalog). IsLegal w (commits_from 0 i.earlier) i.since) (sym (serial-push [] i.earlier first)) rest.1)
    (aged-rest i.earlier (first ∷ i.since) ages).1
    (in_force-push s t None i.earlier first ∙ own_entry s t (in_force_from s t None i.earlier) l i.dump)
    i.not_ended i.not_anew

slice_after-append : (s : ℕ) (before xs ys : List Entry) → slice_after s before (xs ++ ys) ≡ slice_after s before xs ++ slice_after s (before ++ xs) ys
slice_after-append s before [] ys = ap (λ (zs : List Entry). slice_after s zs ys) (sym (append-nil before))
slice_after-append s before (x ∷ xs) ys =
    ap (λ zs. expected_items s before x ++ zs) (slice_after-append s (before ++ x ∷ []) xs ys ∙ ap (λ (zs : List Entry). slice_after s (before ++ x ∷ []) xs ++ slice_after s zs ys) (append_assoc before (x ∷ []) xs))
    ∙ sym (append_assoc (expected_items s before x) _ _)

-- the slice of a log in two parts
pub slice_parts : (s : ℕ) (xs ys : List Entry) → slice s (xs ++ ys) ≡ slice s xs ++ slice_after s xs ys
slice_parts s xs ys = slice_after-append s [] xs ys
