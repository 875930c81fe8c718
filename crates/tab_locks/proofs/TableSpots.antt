-- The locks on one table, as one list.
use Rattle.std.proofs.Common.{◌≡◌, List, Bool, true, false, ◌||◌, ◌&&◌, not, refl, sym, ap, ◌∙◌}
use Rattle.std.proofs.Math.Bool.{and-true, or_assoc}
use Rattle.std.proofs.lemmas.List.Folds.{list_any-append}
use Rattle.std.specs.Prelude.{map}
use Rattle.std.specs.List.{list_any}
use Rattle.tab_term.specs.Data.{PlainTerm}
use Rattle.tab_term.specs.Same.{same, same_equiv}
use Rattle.tab_model.specs.Locks.{Part, All, Key, meets}
use Rattle.tab_locks.specs.declared.question.Relation.{Relation}
use Rattle.tab_locks.specs.declared.question.Relation.TheVariants.{Meeting, Opposing, Blocking, Covering}
use Rattle.tab_locks.specs.Questions.{reaches}
use Rattle.tab_locks.specs.Members.{HasMore, SameMembers, Drops}
use Rattle.tab_locks.specs.Spots.{Holding, Spot, KeySpot, spots_of, stands_on, stands_on_key, is_holding}
use Rattle.tab_locks.proofs.Passing.{or_swap, any_same, any_map, any_and}

pub any_spots : (p : Spot → Bool) (all : List Holding) (keys : List KeySpot) → list_any p (spots_of all keys) ≡ (list_any (λ h. p (All, h)) all || list_any (λ s. p (Key s.0, s.1)) keys)
any_spots p all keys = list_any-append p (map (λ h. (All, h)) all) (map (λ s. (Key s.0, s.1)) keys) ∙ (λ i. any_map p (λ (h : Holding). (All, h)) all i || any_map p (λ (s : KeySpot). (Key s.0, s.1)) keys i)

reaches_all : (r : Relation) (part : Part) → reaches r part All ≡ true
reaches_all Meeting All = refl
reaches_all Meeting (Key k) = refl
reaches_all Opposing All = refl
reaches_all Opposing (Key k) = refl
reaches_all Blocking All = refl
reaches_all Blocking (Key k) = refl
reaches_all Covering part = refl

reaches_key : (r : Relation) (j k : PlainTerm) → reaches r (Key j) (Key k) ≡ same j k
reaches_key Meeting j k = refl
reaches_key Opposing j k = refl
reaches_key Blocking j k = refl
reaches_key Covering j k = same_equiv.symm k j

module _ (r : Relation) (p : Holding → Bool) (all : List Holding) (keys : List KeySpot) where
  of_all : (part : Part) → list_any (λ h. reaches r part All && p h) all ≡ list_any p all
  of_all part = any_same (λ h. reaches r part All && p h) p all (λ h. ap (λ b. b && p h) (reaches_all r part))

  -- a question about all of the table
  pub asked_all : (b : Bool) → ((k : PlainTerm) → b ≡ reaches r All (Key k)) → list_any (λ s. reaches r All s.0 && p s.1) (spots_of all keys) ≡ (list_any p all || (b && list_any (λ s. p s.1) keys))
  asked_all b is =
      any_spots (λ s. reaches r All s.0 && p s.1) all keys
      ∙ (λ i. of_all All i || (any_same (λ s. reaches r All (Key s.0) && p s.1) (λ s. b && p s.1) keys (λ s. ap (λ a. a && p s.1) (sym (is s.0))) ∙ any_and b (λ s. p s.1) keys) i)

  -- about a key
  pub asked_key : (key : PlainTerm) → list_any (λ s. reaches r (Key key) s.0 && p s.1) (spots_of all keys) ≡ (list_any p all || list_any (λ s. same key s.0 && p s.1) keys)
  asked_key key =
      any_spots (λ s. reaches r (Key key) s.0 && p s.1) all keys
      ∙ (λ i. of_all (Key key) i || any_same (λ s. reaches r (Key key) (Key s.0) && p s.1) (λ s. same key s.0 && p s.1) keys (λ s. ap (λ a. a && p s.1) (reaches_key r key s.0)) i)

  pub asked_first : (part : Part) → list_any p all ≡ true → list_any (λ s. reaches r part s.0 && p s.1) (spots_of all keys) ≡ true
  asked_first part h = any_spots (λ s. reaches r part s.0 && p s.1) all keys ∙ (λ i. (of_all part ∙ h) i || list_any (λ s. reaches r part (Key s.0) && p s.1) keys)

-- a part that no one holds a lock on
pub free_all : (all : List Holding) (keys : List KeySpot) → list_any (λ h. true) all ≡ false → list_any (λ s. true) keys ≡ false → list_any (λ s. meets All s.0) (spots_of all keys) ≡ false
free_all all keys none bare = any_spots (λ s. meets All s.0) all keys ∙ (λ i. none i || bare i)

pub free_key : (key : PlainTerm) (all : List Holding) (keys : List KeySpot) → list_any (λ h. true) all ≡ false → list_any (λ s. same key s.0) keys ≡ false → list_any (λ s. meets (Key key) s.0) (spots_of all keys) ≡ false
free_key key all keys none bare = any_spots (λ s. meets (Key key) s.0) all keys ∙ (λ i. none i || bare i)

pub more_on_all : (x : Holding) (all new : List Holding) (keys : List KeySpot) → HasMore x all new → HasMore (All, x) (spots_of all keys) (spots_of new keys)
more_on_all x all new keys h = λ p.
    any_spots p new keys ∙ (λ i. h (λ y. p (All, y)) i || list_any (λ s. p (Key s.0, s.1)) keys)
    ∙ or_assoc (p (All, x)) (list_any (λ y. p (All, y)) all) (list_any (λ s. p (Key s.0, s.1)) keys)
    ∙ (λ i. p (All, x) || sym (any_spots p all keys) i)

pub more_on_key : (key : PlainTerm) (x : Holding) (all : List Holding) (keys new : List KeySpot) → HasMore (key, x) keys new → HasMore (Key key, x) (spots_of all keys) (spots_of all new)
more_on_key key x all keys new h = λ p.
    any_spots p all new ∙ (λ i. list_any (λ y. p (All, y)) all || h (λ s. p (Key s.0, s.1)) i)
    ∙ or_swap (list_any (λ y. p (All, y)) all) (p (Key key, x)) (list_any (λ s. p (Key s.0, s.1)) keys)
    ∙ (λ i. p (Key key, x) || sym (any_spots p all keys) i)

pub same_on_keys : (all : List Holding) (keys new : List KeySpot) → SameMembers keys new → SameMembers (spots_of all keys) (spots_of all new)
same_on_keys all keys new h = λ p. any_spots p all new ∙ (λ i. list_any (λ y. p (All, y)) all || h (λ s. p (Key s.0, s.1)) i) ∙ sym (any_spots p all keys)

pub dropped_on_all : (r : Holding) (all new : List Holding) (keys : List KeySpot) → Drops (is_holding r) all new → Drops (stands_on All r) (spots_of all keys) (spots_of new keys)
dropped_on_all r all new keys h = λ p.
    any_spots p new keys
    ∙ (λ i. h (λ y. p (All, y)) i || any_same (λ s. p (Key s.0, s.1)) (λ s. p (Key s.0, s.1) && true) keys (λ s. sym (and-true (p (Key s.0, s.1)))) i)
    ∙ sym (any_spots (λ s. p s && not (stands_on All r s)) all keys)

pub dropped_on_key : (key : PlainTerm) (r : Holding) (all : List Holding) (keys new : List KeySpot) → Drops (stands_on_key key r) keys new → Drops (stands_on (Key key) r) (spots_of all keys) (spots_of all new)
dropped_on_key key r all keys new h = λ p.
    any_spots p all new
    ∙ (λ i. any_same (λ y. p (All, y)) (λ y. p (All, y) && true) all (λ y. sym (and-true (p (All, y)))) i || h (λ s. p (Key s.0, s.1)) i)
    ∙ sym (any_spots (λ s. p s && not (stands_on (Key key) r s)) all keys)
