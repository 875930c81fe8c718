use Rattle.std.proofs.Common.{sym, ap, ◌∙◌, subst, append-nil, arith}
use Rattle.std.specs.BTreeMap.{BTreeMap}
use Rattle.std.specs.Global.{Vec}
use Rattle.std.specs.List.{list_any}
use Rattle.std.specs.Option.{option_copied_mut}
use Rattle.tab_model.specs.declared.data.Lock as code
use Rattle.tab_locks.specs.Plain.{lock_of}
use Rattle.tab_locks.specs.Spots.{same_lock}
use Rattle.tab_locks.specs.Members.{SameMembers}
use Rattle.tab_locks.specs.Placed.{listed, without_last}
use Rattle.tab_locks.proofs.Listing.{listed_same}
use Rattle.tab_locks.proofs.WithoutLast.{absent_last, empty_last, listed_less, still_marked, marked_again}
use Rattle.tab_locks.proofs.lock_table.LockTable.unhold.Goals as goal

pub returns-in_default : goal.returns-in_default
returns-in_default c =
    let es = c.self.inside.owners.entries in
    let missing = sym (ap option_copied_mut (sym c.in_default.is) ∙ c.get_mut.ensures.value) in
    ap (λ (m : BTreeMap _ (Vec code.Lock)). listed m.entries) c.get_mut.follows.holds-at-none ∙ sym (absent_last c.args.age es missing) ∙ ap (without_last c.args.age) c.self.view_is

pub invariant_of-self-in_default-pop : goal.invariant_of-self-in_default-pop
invariant_of-self-in_default-pop c =
    let w = c.pop.new.self in
    let wrote = c.get_mut.follows.holds w in
    let found = sym (ap option_copied_mut (sym c.in-Some.is) ∙ c.get_mut.ensures.value) in
    let same = ap listed wrote.0 ∙ listed_same c.args.age c.in-Some.locks.now w c.self.inside.owners.entries found (sym (c.in_default-pop.ensures.items ∙ append-nil w.items)) in
    record { ordered = wrote.4; indexed = λ p. c.self.invariant.indexed p ∙ ap (list_any p) (sym same) }

pub returns-in_default-pop : goal.returns-in_default-pop
returns-in_default-pop c =
    let es = c.self.inside.owners.entries in
    let w = c.pop.new.self in
    let wrote = c.get_mut.follows.holds w in
    let found = sym (ap option_copied_mut (sym c.in-Some.is) ∙ c.get_mut.ensures.value) in
    let same = ap listed wrote.0 ∙ listed_same c.args.age c.in-Some.locks.now w es found (sym (c.in_default-pop.ensures.items ∙ append-nil w.items)) in
    same ∙ sym (empty_last c.args.age c.in-Some.locks.now es c.self.invariant.ordered found (omega (arith, c.in-Some.locks.now.ok, c.in_default-pop.ensures.cases))) ∙ ap (without_last c.args.age) c.self.view_is

pub invariant_of-self-2 : goal.invariant_of-self-2
invariant_of-self-2 c =
    let es = c.self.inside.owners.entries in
    let w = c.pop.new.self in
    let wrote = c.get_mut.follows.holds w in
    let found = sym (ap option_copied_mut (sym c.in-Some.is) ∙ c.get_mut.ensures.value) in
    let alone = ap (list_any (λ (k : code.Lock). same_lock (lock_of c.in-Some-pop.last) (lock_of k))) (sym c.deref.ensures.value) ∙ sym c.has_equal.ensures ∙ c.if-has_equal.false in
    let marked = still_marked c.args.age c.in-Some-pop.last c.in-Some.locks.now w es c.self.inside.index c.remove.new.self c.self.invariant.ordered found c.in-Some-pop.ensures.items c.self.invariant.indexed alone c.remove.ensures in
    record { ordered = wrote.4; indexed = subst (λ fs. SameMembers (listed fs) c.remove.new.self) (sym wrote.0) marked }

pub returns : goal.returns
returns c =
    let w = c.pop.new.self in
    let wrote = c.get_mut.follows.holds w in
    let found = sym (ap option_copied_mut (sym c.in-Some.is) ∙ c.get_mut.ensures.value) in
    ap listed wrote.0 ∙ listed_less c.args.age c.in-Some-pop.last c.in-Some.locks.now w c.self.inside.owners.entries c.self.invariant.ordered found c.in-Some-pop.ensures.items ∙ ap (without_last c.args.age) c.self.view_is

pub invariant_of-self-then-has_equal : goal.invariant_of-self-then-has_equal
invariant_of-self-then-has_equal c =
    let es = c.self.inside.owners.entries in
    let w = c.pop.new.self in
    let wrote = c.get_mut.follows.holds w in
    let found = sym (ap option_copied_mut (sym c.in-Some.is) ∙ c.get_mut.ensures.value) in
    let more = ap (list_any (λ (k : code.Lock). same_lock (lock_of c.in-Some-pop.last) (lock_of k))) (sym c.deref.ensures.value) ∙ sym c.has_equal.ensures ∙ c.if-has_equal.true in
    let marked = marked_again c.args.age c.in-Some-pop.last c.in-Some.locks.now w es c.self.inside.index found c.in-Some-pop.ensures.items c.self.invariant.indexed more in
    record { ordered = wrote.4; indexed = subst (λ fs. SameMembers (listed fs) c.self.inside.index) (sym wrote.0) marked }

pub returns-then-has_equal : goal.returns-then-has_equal
returns-then-has_equal c =
    let w = c.pop.new.self in
    let wrote = c.get_mut.follows.holds w in
    let found = sym (ap option_copied_mut (sym c.in-Some.is) ∙ c.get_mut.ensures.value) in
    ap listed wrote.0 ∙ listed_less c.args.age c.in-Some-pop.last c.in-Some.locks.now w c.self.inside.owners.entries c.self.invariant.ordered found c.in-Some-pop.ensures.items ∙ ap (without_last c.args.age) c.self.view_is
