-- A subscription is in force exactly where a Subscribed entry stands that nothing after it ended.
use Rattle.std.proofs.Common.{◌≡◌, ℕ, List, [], ◌∷◌, ◌++◌, Bool, true, false, ◌||◌, ◌&&◌, not, refl, ap, ◌∙◌, Option, Some, None, ◌⊎◌, inl, inr}
use Rattle.std.specs.Prelude.{◌==◌, if◌then◌else◌}
use Rattle.std.specs.Str.{bytes_eq}
use Rattle.std.specs.List.{list_any}
use Rattle.std.proofs.lemmas.Slice.Eq.{bytes_eq-Decides}
use Rattle.std.proofs.lemmas.Bool.{and_parts, or_parts}
use Rattle.tab_model.specs.declared.data.Level.{Level}
use Rattle.tab_model.specs.declared.data.Entry.{Entry}
use Rattle.tab_model.specs.declared.data.Entry.TheVariants.{Committed, Changed, Subscribed, Unsubscribed}
use Rattle.tab_model.specs.Schemas.{removed_table}
use Rattle.tab_model.specs.Log.{has_session, is_removed, level_if, level_after, in_force, in_force_from}
use Rattle.tab_model.specs.Since.{is_end_of, is_subscription_of, IsInForceSince}
use Rattle.tab_model.proofs.SessionLists.{eq_true, itself}
use Rattle.tab_model.proofs.RepliesStay.{eq_names}

-- an entry that neither ends nor begins it leaves it
pub stands_on : (s : ℕ) (t : List ℕ) (b : Option Level) (e : Entry) → is_end_of s t e ≡ false → is_subscription_of s t e ≡ false → level_after s t b e ≡ b
stands_on s t b (Committed n x age xs rs over) h g = ap (λ c. level_if (not c) b) h
stands_on s t b (Changed c over) h g = ap (λ z. level_if (not z) b) h
stands_on s t b (Subscribed x u l dump) h g = ap (λ z. if z then Some l else b) g
stands_on s t b (Unsubscribed x u) h g = ap (λ z. level_if (not z) b) (or_parts ((x == s) && bytes_eq u t) false h).0

in_force_on : (s : ℕ) (t : List ℕ) (b : Option Level) (log : List Entry) → list_any (is_end_of s t) log ≡ false → list_any (is_subscription_of s t) log ≡ false → in_force_from s t b log ≡ b
in_force_on s t b [] h g = refl
in_force_on s t b (e ∷ log) h g =
    let p = or_parts (is_end_of s t e) (list_any (is_end_of s t) log) h in
    let q = or_parts (is_subscription_of s t e) (list_any (is_subscription_of s t) log) g in
    in_force_on s t (level_after s t b e) log p.1 q.1 ∙ stands_on s t b e p.0 q.0

in_force-append : (s : ℕ) (t : List ℕ) (b : Option Level) (xs ys : List Entry) → in_force_from s t b (xs ++ ys) ≡ in_force_from s t (in_force_from s t b xs) ys
in_force-append s t b [] ys = refl
in_force-append s t b (x ∷ xs) ys = in_force-append s t (level_after s t b x) xs ys

pub own_entry : (s : ℕ) (t : List ℕ) (b : Option Level) (l : Level) (dump : Bool) → level_after s t b (Subscribed s t l dump) ≡ Some l
own_entry s t b l dump = λ i. if (itself s i) && ((bytes_eq-Decides t t).1 refl i) then Some l else b

pub stands_in_force : (s : ℕ) (t : List ℕ) (l : Level) (log : List Entry) → IsInForceSince s t l log → in_force s log t ≡ Some l
stands_in_force s t l log i =
    ap (λ (x : List Entry). in_force s x t) i.is
    ∙ in_force-append s t None i.earlier (Subscribed s t l i.dump ∷ i.since)
    ∙ in_force_on s t (level_after s t (in_force_from s t None i.earlier) (Subscribed s t l i.dump)) i.since i.not_ended i.not_anew
    ∙ own_entry s t (in_force_from s t None i.earlier) l i.dump

-- a level that stands after an entry stood before it and isn't touched, or began with it
pub record Untouched (s : ℕ) (t : List ℕ) (b : Option Level) (l : Level) (e : Entry) : Type 0 where
  pub before : b ≡ Some l
  pub not_ended : is_end_of s t e ≡ false
  pub not_anew : is_subscription_of s t e ≡ false

pub record Begun (s : ℕ) (t : List ℕ) (l : Level) (e : Entry) : Type 0 where
  pub dump : Bool
  pub is : e ≡ Subscribed s t l dump

kept_some : (c : Bool) (b : Option Level) (l : Level) → level_if (not c) b ≡ Some l → (b ≡ Some l) × (c ≡ false)
kept_some true b l h = cc
kept_some false b l h = (h, refl)

or_false : (a : Bool) → a ≡ false → (a || false) ≡ false
or_false true h = h
or_false false h = refl

one_entry : (s : ℕ) (t : List ℕ) (b : Option Level) (l : Level) (e : Entry) → level_after s t b e ≡ Some l → Untouched s t b l e ⊎ Begun s t l e
one_entry s t b l (Committed n x age xs rs over) h = let p = kept_some (has_session over s) b l h in inl (record { before = p.0; not_ended = p.1; not_anew = refl })
one_entry s t b l (Changed c over) h = let p = kept_some (is_removed t (removed_table c) || has_session over s) b l h in inl (record { before = p.0; not_ended = p.1; not_anew = refl })
one_entry s t b l (Unsubscribed x u) h = let p = kept_some ((x == s) && bytes_eq u t) b l h in inl (record { before = p.0; not_ended = or_false ((x == s) && bytes_eq u t) p.1; not_anew = refl })
one_entry s t b l (Subscribed x u m dump) h = cases ((x == s) && bytes_eq u t) refl h
  where
    cases : (c : Bool) → ((x == s) && bytes_eq u t) ≡ c → (if c then Some m else b) ≡ Some l → Untouched s t b l (Subscribed x u m dump) ⊎ Begun s t l (Subscribed x u m dump)
    cases true e g =
        let p = and_parts (x == s) (bytes_eq u t) e in
        let level : m ≡ l = cc in
        inr (record { dump = dump; is = λ i. Subscribed (eq_true x s p.0 i) (eq_names u t p.1 i) (level i) dump })
    cases false e g = inl (record { before = g; not_ended = refl; not_anew = e })

pub record Never (s : ℕ) (t : List ℕ) (b : Option Level) (l : Level) (log : List Entry) : Type 0 where
  pub before : b ≡ Some l
  pub not_ended : list_any (is_end_of s t) log ≡ false
  pub not_anew : list_any (is_subscription_of s t) log ≡ false

found_from : (s : ℕ) (t : List ℕ) (b : Option Level) (l : Level) (log : List Entry) → in_force_from s t b log ≡ Some l → Never s t b l log ⊎ IsInForceSince s t l log
found_from s t b l [] h = inl (record { before = h; not_ended = refl; not_anew = refl })
found_from s t b l (e ∷ log) h = cases (found_from s t (level_after s t b e) l log h)
  where
    begun : Never s t (level_after s t b e) l log → Untouched s t b l e ⊎ Begun s t l e → Never s t b l (e ∷ log) ⊎ IsInForceSince s t l (e ∷ log)
    begun n (inl u) = inl (record { before = u.before; not_ended = λ i. u.not_ended i || n.not_ended i; not_anew = λ i. u.not_anew i || n.not_anew i })
    begun n (inr u) = inr (record { earlier = []; dump = u.dump; since = log; is = λ i. u.is i ∷ log; not_ended = n.not_ended; not_anew = n.not_anew })

    cases : Never s t (level_after s t b e) l log ⊎ IsInForceSince s t l log → Never s t b l (e ∷ log) ⊎ IsInForceSince s t l (e ∷ log)
    cases (inl n) = begun n (one_entry s t b l e n.before)
    cases (inr r) = inr (record { earlier = e ∷ r.earlier; dump = r.dump; since = r.since; is = λ i. e ∷ r.is i; not_ended = r.not_ended; not_anew = r.not_anew })

pub in_force_stands : (s : ℕ) (t : List ℕ) (l : Level) (log : List Entry) → in_force s log t ≡ Some l → IsInForceSince s t l log
in_force_stands s t l log h = cases (found_from s t None l log h)
  where
    cases : Never s t None l log ⊎ IsInForceSince s t l log → IsInForceSince s t l log
    cases (inl n) = let e = n.before in cc
    cases (inr r) = r
