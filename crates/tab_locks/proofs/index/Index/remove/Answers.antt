use Rattle.std.proofs.Common.{◌≡◌, sym, ap, not, subst, ◌∙◌, List, [], ◌∷◌, ◌++◌, Bool, arith}
use Rattle.std.specs.List.{cons_option}
use Rattle.tab_model.specs.Ages.{Owned}
use Rattle.tab_locks.specs.Members.{Drops}
use Rattle.tab_locks.specs.Plain.{part_of, is_write, lock_of}
use Rattle.tab_locks.specs.Spots.{locks_in, stands_on, holds_at}
use Rattle.tab_locks.proofs.FirstTable.{named, dropped_first, dropped_only, dropped_others, beside_less, beside_kept, IsElsewhere, elsewhere_none, elsewhere_named}
use Rattle.tab_locks.proofs.Passing.{none_there}
use Rattle.tab_locks.proofs.index.Index.remove.Goals as goal
use Rattle.tab_locks.proofs.index.Index.remove.Goals.{in_default-via-in-Some+else-eq, in_default-via-in_default}

pub returns-then-not-is_occupied : goal.returns-then-not-is_occupied
returns-then-not-is_occupied c =
    let l = c.args.lock in
    let e = c.in-Some.first in
    let os = c.self.inside.others in
    let w = c.remove.new.self in
    let there = named l.table e.0 c.eq.result c.eq.ensures ∙ c.if-eq.true in
    let bare = sym (none_there w c.is_occupied.result (ap not c.if-not-is_occupied.true) c.is_occupied.ensures) in
    let gone_spots = subst (λ (b : Bool). Drops (stands_on (part_of l.what) (c.args.age, b)) e.1 w) c.is_write.ensures c.remove.ensures in
    subst (λ (v : List Owned). Drops (holds_at c.args.age (lock_of l)) v os) c.self.view_is
    (dropped_only l.table c.args.age (part_of l.what) (is_write l.mode) e w c.self.inside.first os c.in-Some.is there c.self.invariant bare gone_spots)

pub returns-in-Some : goal.returns-in-Some
returns-in-Some c =
    let l = c.args.lock in
    let e = c.in-Some.first in
    let os = c.self.inside.others in
    let w = c.remove.new.self in
    let there = named l.table e.0 c.eq.result c.eq.ensures ∙ c.if-eq.true in
    let gone_spots = subst (λ (b : Bool). Drops (stands_on (part_of l.what) (c.args.age, b)) e.1 w) c.is_write.ensures c.remove.ensures in
    subst (λ (v : List Owned). Drops (holds_at c.args.age (lock_of l)) v (locks_in ((e.0, w) ∷ []) ++ os)) c.self.view_is
    (dropped_first l.table c.args.age (part_of l.what) (is_write l.mode) e w c.self.inside.first os c.in-Some.is there c.self.invariant gone_spots)

pub invariant_of-self-in_default : goal.invariant_of-self-in_default
invariant_of-self-in_default c =
    let f = c.in_default.self-inside.first in
    let os = c.in_default.self-inside.others in
    let kept = λ (one : c.self.inside.first ≡ f) (same : c.self.inside.others ≡ os).
    beside_less (holds_at c.args.age (lock_of c.args.lock)) f os c.remove-in_default.new.self c.remove-in_default.ensures (beside_kept c.self.inside.first f c.self.inside.others os one same c.self.invariant) in
    elim c.in_default.branch [
      | in_default-via-in-Some+else-eq w ↦ kept (grind (arith, w.self-inside-is, w.in-Some.is)) (grind (arith, w.self-inside-is))
      | in_default-via-in_default w ↦ kept (grind (arith, w.self-inside-is, w.in_default.is)) (grind (arith, w.self-inside-is))
    ]

pub returns : goal.returns
returns c =
    let l = c.args.lock in
    let f = c.in_default.self-inside.first in
    let os = c.in_default.self-inside.others in
    let gone = holds_at c.args.age (lock_of l) in
    let dropped = λ (one : f ≡ c.self.inside.first) (same : os ≡ c.self.inside.others) (other : IsElsewhere l.table f).
    subst (λ (v : List Owned). Drops gone v (locks_in (cons_option f []) ++ c.remove-in_default.new.self)) ((λ i. locks_in (cons_option (one i) []) ++ same i) ∙ c.self.view_is)
    (dropped_others l.table c.args.age (part_of l.what) (is_write l.mode) f os c.remove-in_default.new.self other c.remove-in_default.ensures) in
    elim c.in_default.branch [
      | in_default-via-in-Some+else-eq w ↦ dropped (grind (arith, w.self-inside-is, w.in-Some.is)) (grind (arith, w.self-inside-is))
          (elsewhere_named l.table w.in-Some.first w.eq.result f (grind (arith, w.self-inside-is, w.in-Some.is)) w.eq.ensures w.if-eq.false)
      | in_default-via-in_default w ↦ dropped (grind (arith, w.self-inside-is, w.in_default.is)) (grind (arith, w.self-inside-is))
          (elsewhere_none l.table f (grind (arith, w.self-inside-is, w.in_default.is)))
    ]
