-- A table that stands before the others: what is found there, and what is left when it is written or goes.
use Rattle.std.proofs.Common.{◌≡◌, ℕ, List, [], ◌∷◌, ◌++◌, Bool, true, false, ◌||◌, ◌&&◌, not, cond, refl, sym, ap, subst, ◌∙◌, Option, Some, None}
use Rattle.std.proofs.Math.Bool.{or-false}
use Rattle.std.proofs.lemmas.List.Folds.{list_any-append}
use Rattle.std.specs.Prelude.{IfSome}
use Rattle.std.specs.BTreeMap.{is_at, insert_entry}
use Rattle.std.specs.List.{list_any, cons_option}
use Rattle.std.specs.List.Sorted.{IsStrictlySortedBy}
use Rattle.std.specs.Map.{keys_of, lookup, set_value, remove_entry}
use Rattle.std.specs.Str.{bytes_eq}
use Rattle.tab_term.specs.Order.{bytes_cmp}
use Rattle.tab_term.specs.Same.{bytes_equiv}
use Rattle.tab_model.specs.Ages.{Owned}
use Rattle.tab_model.specs.Locks.{Part, lock, meets}
use Rattle.tab_model.specs.State.{is_in}
use Rattle.tab_locks.specs.declared.question.Relation.{Relation}
use Rattle.tab_locks.specs.declared.question.Relation.TheVariants.{Meeting}
use Rattle.tab_locks.specs.Filled.{StandsBeside}
use Rattle.tab_locks.specs.Members.{HasMore, SameMembers, Drops}
use Rattle.tab_locks.specs.Questions.{asked, fits, reaches, meets_at}
use Rattle.tab_locks.specs.Spots.{Spot, locks_in, stands_on, holds_at, same_part, is_holding}
use Rattle.tab_locks.proofs.Joined.{more_before, same_before, dropped_joined}
use Rattle.tab_locks.proofs.Lookups.{found_any}
use Rattle.tab_locks.proofs.Passing.{any_below, any_but}
use Rattle.tab_locks.proofs.TableLocks.{is_table, one_table, asked_by_parts, asked_at, locked_at, free_in, more_in, same_in, new_in, none_in, dropped_in, dropped_last}

abbrev Table : Type 0
Table = List ℕ × List Spot

pub alone : (first : Option Table) → IsStrictlySortedBy bytes_cmp (keys_of (cons_option first []))
unfolding IsStrictlySortedBy
alone None = tt
alone (Some e) = (tt, tt)

-- whether the first table is that one
pub named : (t u : List ℕ) (b : Bool) → b ≡ bytes_eq u t → is_at (bytes_cmp t) u ≡ b
named t u b is = is_table t u ∙ bytes_equiv.symm t u ∙ sym is

module _ (t : List ℕ) where
  pub under_it : (e : Table) (first : Option Table) → first ≡ Some e → is_at (bytes_cmp t) e.0 ≡ true → lookup (is_at (bytes_cmp t)) (cons_option first []) ≡ Some e.1
  under_it e first is named = ap (λ (f : Option Table). lookup (is_at (bytes_cmp t)) (cons_option f [])) is ∙ ap (λ b. cond b (Some e.1) None) named

  pub under_none : (first : Option Table) → first ≡ None → lookup (is_at (bytes_cmp t)) (cons_option first []) ≡ None
  under_none first is = ap (λ (f : Option Table). lookup (is_at (bytes_cmp t)) (cons_option f [])) is

  -- where it is found there, none of the others is on it
  pub found_apart : (v : List Spot) (first : Option Table) (os : List Owned) → lookup (is_at (bytes_cmp t)) (cons_option first []) ≡ Some v → IfSome first (StandsBeside os) → list_any (is_in t) os ≡ false
  found_apart v None os l s = absurd cc
  found_apart v (Some e) os l s = by (is_at (bytes_cmp t) e.0) refl l
    where
      by : (b : Bool) → is_at (bytes_cmp t) e.0 ≡ b → cond b (Some e.1) None ≡ Some v → list_any (is_in t) os ≡ false
      by true h m = subst (λ (u : List ℕ). list_any (is_in u) os ≡ false) (sym (one_table t e.0 h)) s.apart
      by false h m = absurd cc

  -- ---- questions about one table

  asked_in : (r : Relation) (age : ℕ) (write : Bool) (part : Part) (x : Owned) → is_in t x ≡ false → asked r (age, lock t part write) x ≡ false
  asked_in r age write part x n =
      asked_by_parts r age write t x.1.table part (x.1.part, (x.0, x.1.write))
      ∙ ap (λ b. b && (reaches r part x.1.part && fits r (age, write) (x.0, x.1.write))) (bytes_equiv.symm t x.1.table ∙ n)

  -- none of the others is asked for
  pub none_asked : (r : Relation) (age : ℕ) (write : Bool) (part : Part) (os : List Owned) → list_any (is_in t) os ≡ false → list_any (asked r (age, lock t part write)) os ≡ false
  none_asked r age write part os n = any_below (asked r (age, lock t part write)) (is_in t) os (asked_in r age write part) n

  pub asked_first : (r : Relation) (age : ℕ) (write : Bool) (part : Part) (v : List Spot) (first : Option Table) (os : List Owned) → lookup (is_at (bytes_cmp t)) (cons_option first []) ≡ Some v → IfSome first (StandsBeside os)
      → list_any (asked r (age, lock t part write)) (locks_in (cons_option first []) ++ os) ≡ list_any (λ s. reaches r part s.0 && fits r (age, write) s.1) v
  asked_first r age write part v first os l s =
      let q = asked r (age, lock t part write) in
      let g = list_any (λ (z : Spot). reaches r part z.0 && fits r (age, write) z.1) in
      list_any-append q (locks_in (cons_option first [])) os
      ∙ (λ i. (asked_at r age write t part (cons_option first []) (alone first) ∙ ap (found_any g) l) i || none_asked r age write part os (found_apart v first os l s) i)
      ∙ or-false (g v)

  pub asked_others : (r : Relation) (age : ℕ) (write : Bool) (part : Part) (first : Option Table) (os : List Owned) → lookup (is_at (bytes_cmp t)) (cons_option first []) ≡ None
      → list_any (asked r (age, lock t part write)) (locks_in (cons_option first []) ++ os) ≡ list_any (asked r (age, lock t part write)) os
  asked_others r age write part first os l =
      let q = asked r (age, lock t part write) in
      let g = list_any (λ (z : Spot). reaches r part z.0 && fits r (age, write) z.1) in
      list_any-append q (locks_in (cons_option first [])) os
      ∙ (λ i. (asked_at r age write t part (cons_option first []) (alone first) ∙ ap (found_any g) l) i || list_any q os)

  pub locked_first : (v : List Spot) (first : Option Table) (os : List Owned) → lookup (is_at (bytes_cmp t)) (cons_option first []) ≡ Some v → IfSome first (StandsBeside os)
      → list_any (is_in t) (locks_in (cons_option first []) ++ os) ≡ list_any (λ (z : Spot). true) v
  locked_first v first os l s =
      list_any-append (is_in t) (locks_in (cons_option first [])) os
      ∙ (λ i. (locked_at t (cons_option first []) (alone first) ∙ ap (found_any (list_any (λ (z : Spot). true))) l) i || found_apart v first os l s i)
      ∙ or-false (list_any (λ (z : Spot). true) v)

  pub locked_others : (first : Option Table) (os : List Owned) → lookup (is_at (bytes_cmp t)) (cons_option first []) ≡ None → list_any (is_in t) (locks_in (cons_option first []) ++ os) ≡ list_any (is_in t) os
  locked_others first os l =
      list_any-append (is_in t) (locks_in (cons_option first [])) os
      ∙ (λ i. (locked_at t (cons_option first []) (alone first) ∙ ap (found_any (list_any (λ (z : Spot). true))) l) i || list_any (is_in t) os)

  pub free_first : (age : ℕ) (write : Bool) (part : Part) (v : List Spot) (first : Option Table) (os : List Owned) → lookup (is_at (bytes_cmp t)) (cons_option first []) ≡ Some v → IfSome first (StandsBeside os)
      → list_any (λ s. meets part s.0) v ≡ false → list_any (meets_at (age, lock t part write)) (locks_in (cons_option first []) ++ os) ≡ false
  free_first age write part v first os l s h =
      list_any-append (meets_at (age, lock t part write)) (locks_in (cons_option first [])) os
      ∙ (λ i. free_in age write t part (cons_option first []) (alone first) (ap (found_any (list_any (λ (z : Spot). meets part z.0))) l ∙ h) i || none_asked Meeting age write part os (found_apart v first os l s) i)

  -- ---- the first table, written

  -- another table stands first, or none
  abbrev pub IsElsewhere : Option Table → Type 0
  IsElsewhere first = IfSome first (λ e. is_at (bytes_cmp t) e.0 ≡ false)

  pub elsewhere_none : (first : Option Table) → first ≡ None → IsElsewhere first
  elsewhere_none first is = subst IsElsewhere (sym is) tt

  pub elsewhere_named : (e : Table) (b : Bool) (first : Option Table) → first ≡ Some e → b ≡ bytes_eq e.0 t → b ≡ false → IsElsewhere first
  elsewhere_named e b first is same n = subst IsElsewhere (sym is) (named t e.0 b same ∙ n)

  pub elsewhere_found : (first : Option Table) → IsElsewhere first → lookup (is_at (bytes_cmp t)) (cons_option first []) ≡ None
  elsewhere_found None h = refl
  elsewhere_found (Some e) h = ap (λ b. cond b (Some e.1) None) h

  written : (e : Table) (w : List Spot) (first : Option Table) → first ≡ Some e → is_at (bytes_cmp t) e.0 ≡ true → (e.0, w) ∷ [] ≡ set_value (is_at (bytes_cmp t)) (cons_option first []) w
  written e w first is there = sym (ap (λ (f : Option Table). set_value (is_at (bytes_cmp t)) (cons_option f []) w) is ∙ ap (λ b. cond b ((e.0, w) ∷ []) (e ∷ [])) there)

  pub more_first : (x : Spot) (e : Table) (w : List Spot) (first : Option Table) (os : List Owned) → first ≡ Some e → is_at (bytes_cmp t) e.0 ≡ true → HasMore x e.1 w
      → HasMore (x.1.0, lock t x.0 x.1.1) (locks_in (cons_option first []) ++ os) (locks_in ((e.0, w) ∷ []) ++ os)
  more_first x e w first os is there h =
      more_before (x.1.0, lock t x.0 x.1.1) (locks_in (cons_option first [])) (locks_in ((e.0, w) ∷ [])) os
      (more_in t x e.1 w (cons_option first []) ((e.0, w) ∷ []) (under_it e first is there) (written e w first is there) h)

  pub same_first : (e : Table) (w : List Spot) (first : Option Table) (os : List Owned) → first ≡ Some e → is_at (bytes_cmp t) e.0 ≡ true → SameMembers e.1 w
      → SameMembers (locks_in (cons_option first []) ++ os) (locks_in ((e.0, w) ∷ []) ++ os)
  same_first e w first os is there h =
      same_before (locks_in (cons_option first [])) (locks_in ((e.0, w) ∷ [])) os
      (same_in t e.1 w (cons_option first []) ((e.0, w) ∷ []) (under_it e first is there) (written e w first is there) h)

  pub new_first : (u : List ℕ) (x : Spot) (v : List Spot) (first : Option Table) (os : List Owned) → u ≡ t → first ≡ None → HasMore x [] v
      → HasMore (x.1.0, lock t x.0 x.1.1) (locks_in (cons_option first []) ++ os) (locks_in ((u, v) ∷ []) ++ os)
  new_first u x v first os same is h =
      more_before (x.1.0, lock t x.0 x.1.1) (locks_in (cons_option first [])) (locks_in ((u, v) ∷ [])) os
      (new_in t u x v (cons_option first []) ((u, v) ∷ []) same (under_none first is) (ap (λ (f : Option Table). insert_entry bytes_cmp (cons_option f []) u v) (sym is)) h)

  gone_in : (age : ℕ) (part : Part) (write : Bool) (x : Owned) → is_in t x ≡ false → holds_at age (lock t part write) x ≡ false
  gone_in age part write x n = ap (λ b. b && (same_part part x.1.part && is_holding (age, write) (x.0, x.1.write))) (bytes_equiv.symm t x.1.table ∙ n)

  others_keep : (age : ℕ) (part : Part) (write : Bool) (os : List Owned) → list_any (is_in t) os ≡ false → Drops (holds_at age (lock t part write)) os os
  others_keep age part write os n =
      let gone = holds_at age (lock t part write) in
      λ p. sym (any_but p gone os (any_below gone (is_in t) os (gone_in age part write) n))

  pub dropped_first : (age : ℕ) (part : Part) (write : Bool) (e : Table) (w : List Spot) (first : Option Table) (os : List Owned) → first ≡ Some e → is_at (bytes_cmp t) e.0 ≡ true → IfSome first (StandsBeside os)
      → Drops (stands_on part (age, write)) e.1 w → Drops (holds_at age (lock t part write)) (locks_in (cons_option first []) ++ os) (locks_in ((e.0, w) ∷ []) ++ os)
  dropped_first age part write e w first os is there s h =
      dropped_joined (holds_at age (lock t part write)) (locks_in (cons_option first [])) (locks_in ((e.0, w) ∷ [])) os os
      (dropped_in age t part write e.1 w (cons_option first []) ((e.0, w) ∷ []) (alone first) (under_it e first is there) (written e w first is there) h)
      (others_keep age part write os (found_apart e.1 first os (under_it e first is there) s))

  pub dropped_only : (age : ℕ) (part : Part) (write : Bool) (e : Table) (w : List Spot) (first : Option Table) (os : List Owned) → first ≡ Some e → is_at (bytes_cmp t) e.0 ≡ true → IfSome first (StandsBeside os) → w ≡ []
      → Drops (stands_on part (age, write)) e.1 w → Drops (holds_at age (lock t part write)) (locks_in (cons_option first []) ++ os) os
  dropped_only age part write e w first os is there s bare h =
      dropped_joined (holds_at age (lock t part write)) (locks_in (cons_option first [])) [] os os
      (dropped_last age t part write e.1 w (cons_option first []) [] (alone first) (under_it e first is there) bare
      (sym (ap (λ (f : Option Table). remove_entry (is_at (bytes_cmp t)) (cons_option f [])) is ∙ ap (λ b. cond b [] (e ∷ [])) there)) h)
      (others_keep age part write os (found_apart e.1 first os (under_it e first is there) s))

  pub dropped_others : (age : ℕ) (part : Part) (write : Bool) (first : Option Table) (os left : List Owned) → IsElsewhere first
      → Drops (holds_at age (lock t part write)) os left → Drops (holds_at age (lock t part write)) (locks_in (cons_option first []) ++ os) (locks_in (cons_option first []) ++ left)
  dropped_others age part write first os left other h =
      dropped_joined (holds_at age (lock t part write)) (locks_in (cons_option first [])) (locks_in (cons_option first [])) os left
      (none_in age t part write (cons_option first []) (elsewhere_found first other)) h

-- ---- that none of the others is on the first table

pub beside_less : (gone : Owned → Bool) (first : Option Table) (os new : List Owned) → Drops gone os new → IfSome first (StandsBeside os) → IfSome first (StandsBeside new)
beside_less gone None os new h s = tt
beside_less gone (Some e) os new h s = record {
  filled = s.filled;
  apart = h (is_in e.0) ∙ any_below (λ x. is_in e.0 x && not (gone x)) (is_in e.0) os (λ x n. ap (λ b. b && not (gone x)) n) s.apart;
}

pub beside_kept : (first f : Option Table) (os o : List Owned) → first ≡ f → os ≡ o → IfSome first (StandsBeside os) → IfSome f (StandsBeside o)
beside_kept first f os o one same s = subst (λ (x : Option Table). IfSome x (StandsBeside o)) one (subst (λ (v : List Owned). IfSome first (StandsBeside v)) same s)
