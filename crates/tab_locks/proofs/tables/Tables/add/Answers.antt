use Rattle.std.proofs.Common.{true, sym, ap, ◌∙◌, subst, ℕ, List, Bool}
use Rattle.std.specs.Option.{option_copied_mut}
use Rattle.std.specs.BTreeMap.{BTreeMap, insert_entry}
use Rattle.std.proofs.lemmas.Result.{on_ok_weaker, on_err_weaker}
use Rattle.tab_model.specs.Ages.{Owned}
use Rattle.tab_model.specs.Locks.{lock}
use Rattle.tab_locks.specs.Members.{HasMore, SameMembers}
use Rattle.tab_locks.specs.Plain.{part_of}
use Rattle.tab_locks.specs.Spots.{Spot, locks_in}
use Rattle.tab_locks.proofs.TableLocks.{more_in, same_in, new_in}
use Rattle.tab_locks.proofs.tables.Tables.add.Goals as goal
use Rattle.tab_term.specs.Order.{bytes_cmp}
use Rattle.tab_locks.specs.Filled.{HasNoneEmpty}
use Rattle.tab_locks.proofs.Filled.{filled_found, filled_grown, filled_written, filled_after}
use Rattle.std.specs.BTreeMap.{is_at}

pub returns-in-Some-clause-ok : goal.returns-in-Some-clause-ok
returns-in-Some-clause-ok c =
    let l = c.args.lock.now in
    let es = c.self.inside.tables.entries in
    let w = c.add.new.self in
    let new = (c.get_mut.follows.lender w).entries in
    let found = sym (ap option_copied_mut (sym c.in-Some.is) ∙ c.get_mut.ensures.value) in
    let before = λ (v : List Owned) (b : Bool). HasMore (c.args.age, lock l.table (part_of l.what) b) v (locks_in new) in
    on_ok_weaker c.add.result
    (λ h. let more = more_in l.table (part_of l.what, (c.args.age, c.is_write-write.result)) c.in-Some.spots.now w es new found (c.get_mut.follows.holds w).0 h in
    subst (λ (b : Bool). before c.args.self.now b) c.is_write-write.ensures (subst (λ (v : List Owned). before v c.is_write-write.result) c.self.view_is more))
    c.add.ensures.ok

pub returns-in-Some-clause-err : goal.returns-in-Some-clause-err
returns-in-Some-clause-err c =
    let es = c.self.inside.tables.entries in
    let w = c.add.new.self in
    let new = (c.get_mut.follows.lender w).entries in
    let found = sym (ap option_copied_mut (sym c.in-Some.is) ∙ c.get_mut.ensures.value) in
    let before = λ (v : List Owned). SameMembers v (locks_in new) in
    on_err_weaker c.add.result (λ h. subst before c.self.view_is (same_in c.args.lock.now.table c.in-Some.spots.now w es new found (c.get_mut.follows.holds w).0 h)) c.add.ensures.err

pub returns-in_ok-insert-in-None-clause-ok : goal.returns-in_ok-insert-in-None-clause-ok
returns-in_ok-insert-in-None-clause-ok c =
    let l = c.args.lock.now in
    let es = c.self.inside.tables.entries in
    let only = c.in_ok-only-in-None.only in
    let new = c.insert.new.self.entries in
    let missing = sym (ap option_copied_mut (sym c.in-None.is) ∙ c.get_mut.ensures.value) in
    let before = λ (v : List Owned) (b : Bool). HasMore (c.args.age, lock l.table (part_of l.what) b) v (locks_in new) in
    let at_none = ap (λ (m : BTreeMap (List ℕ) (List Spot)). insert_entry bytes_cmp m.entries c.in_ok-try_clone-in-None.field-0 only) c.get_mut.follows.holds-at-none in
    let more = new_in l.table c.in_ok-try_clone-in-None.field-0 (part_of l.what, (c.args.age, c.is_write-write.result)) only es new c.in_ok-try_clone-in-None.ensures.ok missing
    (c.in_ok-insert-in-None.ensures.entries ∙ at_none) c.in_ok-only-in-None.ensures in
    subst (λ (b : Bool). before c.args.self.now b) c.is_write-write.ensures (subst (λ (v : List Owned). before v c.is_write-write.result) c.self.view_is more)

pub invariant_of-self : goal.invariant_of-self
invariant_of-self c =
    let w = c.add.new.self in
    let es = c.self.inside.tables.entries in
    let found = sym (ap option_copied_mut (sym c.in-Some.is) ∙ c.get_mut.ensures.value) in
    let was = filled_found (is_at (bytes_cmp c.args.lock.now.table)) es c.in-Some.spots.now found c.self.invariant.filled in
    let one = filled_grown c.add.result (part_of c.args.lock.now.what, (c.args.age, c.is_write-write.result)) c.in-Some.spots.now w was c.add.ensures.ok c.add.ensures.err in
    record {
      ordered = (c.get_mut.follows.holds w).4;
      filled = filled_written (is_at (bytes_cmp c.args.lock.now.table)) w es (c.get_mut.follows.lender w).entries (c.get_mut.follows.holds w).0 c.self.invariant.filled one;
    }

pub invariant_of-self-in-None : goal.invariant_of-self-in-None
invariant_of-self-in-None c =
    let same = c.get_mut.follows.holds-at-none in
    let only = c.in_ok-only-in-None.only in
    record {
      ordered = c.insert.ensures.ordered;
      filled = filled_after bytes_cmp c.in_ok-try_clone-in-None.field-0 only c.get_mut.follows.lender-at-none.entries c.insert.new.self.entries c.insert.result c.insert.ensures.entries c.insert.ensures.err
          (subst (λ (m : BTreeMap (List ℕ) (List Spot)). HasNoneEmpty m.entries) (sym same) c.self.invariant.filled) (c.in_ok-only-in-None.ensures (λ y. true));
    }
