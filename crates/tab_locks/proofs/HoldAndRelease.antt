-- What a table of locks keeps over a lock more and over the release of an owner.
use Rattle.std.proofs.Common.{◌≡◌, ℕ, List, [], ◌∷◌, ◌++◌, Bool, true, false, ◌||◌, ◌&&◌, not, refl, sym, ap, ◌∙◌, ◌↔◌, IsTrue, length, arith, Some, Result, Ok, Err, is_ok, OnOk, OnErr, nat_cmp}
use Rattle.std.specs.Prelude.{if◌then◌else◌}
use Rattle.std.specs.Global.{Vec}
use Rattle.std.specs.List.{list_any}
use Rattle.std.specs.List.Sorted.{IsStrictlySortedBy}
use Rattle.std.specs.BTreeMap.{is_at}
use Rattle.std.specs.Map.{keys_of, lookup, set_value, remove_entry}
use Rattle.tab_model.specs.declared.data.Lock as code
use Rattle.tab_model.specs.Ages.{Owned}
use Rattle.tab_locks.specs.Members.{HasMore, SameMembers, Drops}
use Rattle.tab_locks.specs.Plain.{lock_of}
use Rattle.tab_locks.specs.Spots.{holds_at}
use Rattle.tab_locks.specs.Placed.{placed, without_last, listed, is_of}
use Rattle.tab_locks.proofs.Passing.{any_same, any_more}
use Rattle.tab_locks.proofs.WithoutLast.{placed_undone}
use Rattle.tab_locks.proofs.Listing.{any_placed, listed_more, listed_same, released}

abbrev Entries : Type 0
Entries = List (ℕ × Vec code.Lock)

-- the list after a lock more, or after none
module _ {T E : Type 0} (age : ℕ) (l : code.Lock) (v w : Vec code.Lock) (es new : Entries) (ordered : IsStrictlySortedBy nat_cmp (keys_of es)) (found : lookup (is_at (nat_cmp age)) es ≡ Some v) (set : new ≡ set_value (is_at (nat_cmp age)) es w) where
  pub listed_on_ok : (r : Result T E) (held : List Owned) → w.items ≡ (if is_ok r then v.items ++ l ∷ [] else v.items) → listed es ≡ held → OnOk r (listed new ≡ placed (age, lock_of l) held)
  listed_on_ok (Ok t) held items is = ap listed set ∙ listed_more age l v w es ordered found items ∙ ap (placed (age, lock_of l)) is
  listed_on_ok (Err e) held items is = tt

  pub listed_on_err : (r : Result T E) (held : List Owned) → w.items ≡ (if is_ok r then v.items ++ l ∷ [] else v.items) → listed es ≡ held → OnErr r (listed new ≡ held)
  listed_on_err (Ok t) held items is = tt
  listed_on_err (Err e) held items is = ap listed set ∙ listed_same age v w es found items ∙ is

  pub undone_on_ok : (r : Result T E) (held : List Owned) → w.items ≡ (if is_ok r then v.items ++ l ∷ [] else v.items) → listed es ≡ held → OnOk r (without_last age (listed new) ≡ held)
  undone_on_ok (Ok t) held items is = ap (without_last age) (ap listed set ∙ listed_more age l v w es ordered found items) ∙ placed_undone age l v es ordered found ∙ is
  undone_on_ok (Err e) held items is = tt

  pub still_indexed : (r : Result T E) (index after : List Owned) → w.items ≡ (if is_ok r then v.items ++ l ∷ [] else v.items) → SameMembers (listed es) index
      → OnOk r (HasMore (age, lock_of l) index after) → OnErr r (SameMembers index after) → SameMembers (listed new) after
  still_indexed (Ok t) index after items same more none = λ p.
      more p ∙ (λ i. p (age, lock_of l) || same p i) ∙ sym (any_placed p (age, lock_of l) (listed es)) ∙ ap (list_any p) (sym (ap listed set ∙ listed_more age l v w es ordered found items))
  still_indexed (Err e) index after items same more none = λ p.
      none p ∙ same p ∙ ap (list_any p) (sym (ap listed set ∙ listed_same age v w es found items))

neither : (a b c : Bool) → ((a && not b) && not c) ≡ (a && not (b || c))
neither true true c = refl
neither true false c = refl
neither false b c = refl

pub one_more_gone : (age : ℕ) (l : code.Lock) (locks : List code.Lock) (old now new : List Owned) → Drops (is_of age locks) old now → Drops (holds_at age (lock_of l)) now new → Drops (is_of age (locks ++ l ∷ [])) old new
one_more_gone age l locks old now new before here = λ p.
    here p ∙ before (λ x. p x && not (holds_at age (lock_of l) x))
    ∙ any_same (λ x. (p x && not (holds_at age (lock_of l) x)) && not (is_of age locks x)) (λ x. p x && not (is_of age (locks ++ l ∷ []) x)) old
    (λ x. neither (p x) (holds_at age (lock_of l) x) (is_of age locks x) ∙ ap (λ b. p x && not b) (sym (any_more (λ k. holds_at age (lock_of k) x) locks l)))

pub indexed_released : (age : ℕ) (v : Vec code.Lock) (es new : Entries) (index after : List Owned) → IsStrictlySortedBy nat_cmp (keys_of es) → lookup (is_at (nat_cmp age)) es ≡ Some v
    → new ≡ remove_entry (is_at (nat_cmp age)) es → SameMembers (listed es) index → Drops (is_of age v.items) index after → SameMembers (listed new) after
indexed_released age v es new index after s found is same gone = λ p.
    gone p ∙ same (λ x. p x && not (is_of age v.items x)) ∙ released p age v es s found ∙ ap (λ fs. list_any p (listed fs)) (sym is)

-- without an owner there is no lock, and an empty index has them all
pub nothing_indexed : (b : Bool) (es : Entries) (index : List Owned) → (IsTrue b ↔ (length es ≡ 0)) → b ≡ true → index ≡ [] → SameMembers (listed es) index
nothing_indexed b [] index h t bare = λ p. ap (list_any p) bare
nothing_indexed true (e ∷ es) index h t bare = absurd (omega (arith, h.0 refl))
nothing_indexed false (e ∷ es) index h t bare = absurd cc
