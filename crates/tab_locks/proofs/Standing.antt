-- What the locks of all owners tell of one request.
use Rattle.std.proofs.Common.{◌≡◌, List, Bool, true, false, ◌&&◌, not, refl, sym, ap, ◌∙◌, Some, None}
use Rattle.std.proofs.Math.Bool.{and-true, and-false}
use Rattle.std.specs.Prelude.{◌||◌, ◌==◌, if◌then◌else◌}
use Rattle.std.specs.List.{list_any}
use Rattle.std.specs.Str.{bytes_eq}
use Rattle.tab_term.specs.Same.{same_equiv, bytes_equiv}
use Rattle.tab_model.specs.Locks.{Part, All, Key, meets, contains}
use Rattle.tab_model.specs.Ages.{Owned, opposes, blocks, covers_own}
use Rattle.tab_locks.specs.declared.lock_table.Conflict.TheVariants.{Free, WithYounger, WithOlder}
use Rattle.tab_locks.specs.Questions.{meets_at}
use Rattle.tab_locks.specs.Placed.{conflict_with, standing, in_the_way}
use Rattle.tab_locks.proofs.Passing.{any_below}

contained_meets : (a b : Part) → meets a b ≡ false → contains b a ≡ false
contained_meets All b h = absurd cc
contained_meets (Key j) All h = absurd cc
contained_meets (Key j) (Key k) h = same_equiv.symm k j ∙ h

off_table : (a b c d : Bool) → (b && d) ≡ false → (a && (b && (c && d))) ≡ false
off_table true true true d h = h
off_table true true false d h = refl
off_table true false c d h = refl
off_table false b c d h = refl

apart_opposes : (r x : Owned) → meets_at r x ≡ false → opposes r x ≡ false
apart_opposes r x h = off_table (not (x.0 == r.0)) (bytes_eq r.1.table x.1.table) (r.1.write || x.1.write) (meets r.1.part x.1.part) h

apart_covers : (r x : Owned) → meets_at r x ≡ false → covers_own r x ≡ false
apart_covers r x h = by (meets r.1.part x.1.part) refl h
  where
    by : (m : Bool) → meets r.1.part x.1.part ≡ m → (bytes_eq r.1.table x.1.table && m) ≡ false → covers_own r x ≡ false
    by true e g = off_table (x.0 == r.0) (bytes_eq x.1.table r.1.table) (x.1.write || not r.1.write) (contains x.1.part r.1.part) (ap (λ b. b && contains x.1.part r.1.part) (bytes_equiv.symm x.1.table r.1.table ∙ sym (and-true (bytes_eq r.1.table x.1.table)) ∙ g))
    by false e g = off_table (x.0 == r.0) (bytes_eq x.1.table r.1.table) (x.1.write || not r.1.write) (contains x.1.part r.1.part) (ap (λ b. bytes_eq x.1.table r.1.table && b) (contained_meets r.1.part x.1.part e) ∙ and-false (bytes_eq x.1.table r.1.table))

-- what no one holds a lock on may be held
pub nothing_in_the_way : (r : Owned) (held : List Owned) → list_any (meets_at r) held ≡ false → None ≡ in_the_way r held
nothing_in_the_way r held h =
    λ i. if sym (any_below (covers_own r) (meets_at r) held (apart_covers r) h) i || not (sym (any_below (opposes r) (meets_at r) held (apart_opposes r) h) i) then None
    else Some (conflict_with r held)

pub served : (r : Owned) (held : List Owned) → list_any (covers_own r) held ≡ true → None ≡ in_the_way r held
served r held h = λ i. if sym h i || not (list_any (opposes r) held) then None else Some (conflict_with r held)

pub unopposed : (r : Owned) (held : List Owned) → list_any (covers_own r) held ≡ false → list_any (opposes r) held ≡ false → None ≡ in_the_way r held
unopposed r held h none = λ i. if sym h i || not (sym none i) then None else Some (conflict_with r held)

pub opposed : (r : Owned) (held : List Owned) (older : Bool) → list_any (covers_own r) held ≡ false → list_any (opposes r) held ≡ true → list_any (blocks r) held ≡ older
    → Some (if older then WithOlder else WithYounger) ≡ in_the_way r held
opposed r held older h some is = λ i. if sym h i || not (sym some i) then None else Some (if sym some i then (if sym is i then WithOlder else WithYounger) else Free)

-- where no one's lock is there
pub clear : (r : Owned) (held : List Owned) → list_any (meets_at r) held ≡ false → Some Free ≡ standing r held
clear r held h =
    λ i. if sym (any_below (covers_own r) (meets_at r) held (apart_covers r) h) i then None
    else Some (if sym (any_below (opposes r) (meets_at r) held (apart_opposes r) h) i then (if list_any (blocks r) held then WithOlder else WithYounger) else Free)
