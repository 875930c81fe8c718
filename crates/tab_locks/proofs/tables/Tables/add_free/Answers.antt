use Rattle.std.proofs.Common.{◌≡◌, false, sym, ap, ◌∙◌, subst, List, Bool}
use Rattle.std.specs.Option.{option_copied_mut}
use Rattle.std.specs.List.{list_any}
use Rattle.std.proofs.lemmas.Result.{on_ok_weaker, on_err_weaker}
use Rattle.tab_model.specs.Ages.{Owned}
use Rattle.tab_model.specs.Locks.{lock, meets}
use Rattle.tab_locks.specs.Members.{HasMore, SameMembers}
use Rattle.tab_locks.specs.Plain.{part_of, is_write, lock_of}
use Rattle.tab_locks.specs.Questions.{meets_at}
use Rattle.tab_locks.specs.Spots.{Spot, locks_in}
use Rattle.tab_locks.proofs.Lookups.{found_any}
use Rattle.tab_locks.proofs.TableLocks.{more_in, same_in, free_in}
use Rattle.tab_locks.proofs.tables.Tables.add_free.Goals as goal
use Rattle.tab_term.specs.Order.{bytes_cmp}
use Rattle.tab_locks.proofs.Filled.{filled_found, filled_grown, filled_written}
use Rattle.std.specs.BTreeMap.{is_at}

pub returns-in-Some-clause-ok : goal.returns-in-Some-clause-ok
returns-in-Some-clause-ok c =
    let l = c.args.lock.now in
    let es = c.self.inside.tables.entries in
    let w = c.add_free.new.self in
    let new = (c.get_mut.follows.lender w).entries in
    let found = sym (ap option_copied_mut (sym c.in-Some.is) ∙ c.get_mut.ensures.value) in
    let before = λ (v : List Owned) (b : Bool). HasMore (c.args.age, lock l.table (part_of l.what) b) v (locks_in new) in
    on_ok_weaker c.add_free.result
    (λ h. let more = more_in l.table (part_of l.what, (c.args.age, c.is_write.result)) c.in-Some.spots.now w es new found (c.get_mut.follows.holds w).0 h in
    subst (λ (b : Bool). before c.args.self.now b) c.is_write.ensures (subst (λ (v : List Owned). before v c.is_write.result) c.self.view_is more))
    c.add_free.ensures.ok

pub returns-in-Some-clause-free : goal.returns-in-Some-clause-free
returns-in-Some-clause-free c =
    let l = c.args.lock.now in
    let part = part_of l.what in
    let es = c.self.inside.tables.entries in
    let found = sym (ap option_copied_mut (sym c.in-Some.is) ∙ c.get_mut.ensures.value) in
    let of = λ (v : List Owned) (b : Bool). list_any (meets_at (c.args.age, lock l.table part b)) v ≡ false in
    on_ok_weaker c.add_free.result
    (λ h. let free = free_in c.args.age c.is_write.result l.table part es c.self.invariant.ordered (ap (found_any (list_any (λ (s : Spot). meets part s.0))) found ∙ h) in
    subst (λ (b : Bool). of c.args.self.now b) c.is_write.ensures (subst (λ (v : List Owned). of v c.is_write.result) c.self.view_is free))
    c.add_free.ensures.free

pub returns-in-Some-clause-err : goal.returns-in-Some-clause-err
returns-in-Some-clause-err c =
    let es = c.self.inside.tables.entries in
    let w = c.add_free.new.self in
    let new = (c.get_mut.follows.lender w).entries in
    let found = sym (ap option_copied_mut (sym c.in-Some.is) ∙ c.get_mut.ensures.value) in
    let before = λ (v : List Owned). SameMembers v (locks_in new) in
    on_err_weaker c.add_free.result (λ h. subst before c.self.view_is (same_in c.args.lock.now.table c.in-Some.spots.now w es new found (c.get_mut.follows.holds w).0 h)) c.add_free.ensures.err

pub invariant_of-self : goal.invariant_of-self
invariant_of-self c =
    let w = c.add_free.new.self in
    let es = c.self.inside.tables.entries in
    let found = sym (ap option_copied_mut (sym c.in-Some.is) ∙ c.get_mut.ensures.value) in
    let was = filled_found (is_at (bytes_cmp c.args.lock.now.table)) es c.in-Some.spots.now found c.self.invariant.filled in
    let one = filled_grown c.add_free.result (part_of c.args.lock.now.what, (c.args.age, c.is_write.result)) c.in-Some.spots.now w was c.add_free.ensures.ok c.add_free.ensures.err in
    record {
      ordered = (c.get_mut.follows.holds w).4;
      filled = filled_written (is_at (bytes_cmp c.args.lock.now.table)) w es (c.get_mut.follows.lender w).entries (c.get_mut.follows.holds w).0 c.self.invariant.filled one;
    }

pub returns-in_ok-add-in-None-clause-free : goal.returns-in_ok-add-in-None-clause-free
returns-in_ok-add-in-None-clause-free c =
    let l = c.args.lock.now in
    let part = part_of l.what in
    let missing = sym (ap option_copied_mut (sym c.in-None.is) ∙ c.get_mut.ensures.value) in
    subst (λ (v : List Owned). list_any (meets_at (c.args.age, lock_of l)) v ≡ false) c.self.view_is
    (free_in c.args.age (is_write l.mode) l.table part c.self.inside.tables.entries c.self.invariant.ordered (ap (found_any (list_any (λ (s : Spot). meets part s.0))) missing))
