use Rattle.std.proofs.Common.{sym, ap, ◌∙◌, subst, ℕ, List, arith, nat_cmp, unwrap_or}
use Rattle.std.proofs.lemmas.Result.{on_ok_weaker, on_err_weaker}
use Rattle.std.specs.Cmp.{nat_cmp_total}
use Rattle.std.specs.Global.{Vec}
use Rattle.std.specs.List.{list_any}
use Rattle.std.specs.List.Sorted.{IsStrictlySortedBy}
use Rattle.std.specs.BTreeMap.{is_at}
use Rattle.std.specs.BTreeMap.Entry.{map_with_value}
use Rattle.std.specs.Map.{keys_of, lookup, set_value}
use Rattle.tab_model.specs.declared.data.Lock as code
use Rattle.tab_locks.specs.Placed.{listed}
use Rattle.tab_locks.proofs.PutEntry.{put_there, put_again}
use Rattle.tab_locks.proofs.Listing.{listed_open}
use Rattle.tab_locks.proofs.HoldAndRelease.{listed_on_ok, listed_on_err, undone_on_ok, still_indexed}
use Rattle.tab_locks.proofs.lock_table.LockTable.hold_free.Goals as goal

pub invariant_of-self-2 : goal.invariant_of-self-2
invariant_of-self-2 c =
    let v = c.or_insert-locks.result.now in
    let w = c.keep_free.new.locks in
    let at = is_at (nat_cmp c.args.age) in
    let es = c.self.inside.owners.entries in
    let puts = c.in-Ok.ensures.update.1 in
    let opened = (map_with_value c.in-Ok.entry v).entries in
    let found = ap (lookup at) (puts v) ∙ put_there nat_cmp nat_cmp_total c.args.age v es in
    let set = puts w ∙ put_again nat_cmp nat_cmp_total c.args.age v w es ∙ ap (λ (fs : List (ℕ × Vec code.Lock)). set_value at fs w) (sym (puts v)) in
    let own = c.or_insert-locks.ensures.value ∙ ap (λ o. unwrap_or o c.new.result) c.in-Ok.ensures.value in
    let is = ap listed (puts v) ∙ listed_open c.args.age c.new.result v es c.self.invariant.ordered c.new.ensures.items own in
    let marked = still_indexed c.args.age c.args.lock v w opened (map_with_value c.in-Ok.entry w).entries (c.in-Ok.ensures.update.2 v) found set
    c.keep_free.result c.self.inside.index c.keep_free.new.index c.keep_free.ensures.locks (λ p. c.self.invariant.indexed p ∙ ap (list_any p) (sym is)) c.keep_free.ensures.ok c.keep_free.ensures.err in
    record {
      ordered = subst (λ (fs : List (ℕ × Vec code.Lock)). IsStrictlySortedBy nat_cmp (keys_of fs)) (grind arith) (c.in-Ok.ensures.update.2 w);
      indexed = λ p. grind (arith, marked p);
    }

pub returns-clause-ok : goal.returns-clause-ok
returns-clause-ok c =
    let v = c.or_insert-locks.result.now in
    let w = c.keep_free.new.locks in
    let at = is_at (nat_cmp c.args.age) in
    let es = c.self.inside.owners.entries in
    let puts = c.in-Ok.ensures.update.1 in
    let opened = (map_with_value c.in-Ok.entry v).entries in
    let found = ap (lookup at) (puts v) ∙ put_there nat_cmp nat_cmp_total c.args.age v es in
    let set = puts w ∙ put_again nat_cmp nat_cmp_total c.args.age v w es ∙ ap (λ (fs : List (ℕ × Vec code.Lock)). set_value at fs w) (sym (puts v)) in
    let own = c.or_insert-locks.ensures.value ∙ ap (λ o. unwrap_or o c.new.result) c.in-Ok.ensures.value in
    let is = ap listed (puts v) ∙ listed_open c.args.age c.new.result v es c.self.invariant.ordered c.new.ensures.items own ∙ c.self.view_is in
    on_ok_weaker c.keep_free.result (λ h. grind (arith, h))
    (listed_on_ok c.args.age c.args.lock v w opened (map_with_value c.in-Ok.entry w).entries (c.in-Ok.ensures.update.2 v) found set c.keep_free.result c.args.self.now c.keep_free.ensures.locks is)

pub returns-clause-undo : goal.returns-clause-undo
returns-clause-undo c =
    let v = c.or_insert-locks.result.now in
    let w = c.keep_free.new.locks in
    let at = is_at (nat_cmp c.args.age) in
    let es = c.self.inside.owners.entries in
    let puts = c.in-Ok.ensures.update.1 in
    let opened = (map_with_value c.in-Ok.entry v).entries in
    let found = ap (lookup at) (puts v) ∙ put_there nat_cmp nat_cmp_total c.args.age v es in
    let set = puts w ∙ put_again nat_cmp nat_cmp_total c.args.age v w es ∙ ap (λ (fs : List (ℕ × Vec code.Lock)). set_value at fs w) (sym (puts v)) in
    let own = c.or_insert-locks.ensures.value ∙ ap (λ o. unwrap_or o c.new.result) c.in-Ok.ensures.value in
    let is = ap listed (puts v) ∙ listed_open c.args.age c.new.result v es c.self.invariant.ordered c.new.ensures.items own ∙ c.self.view_is in
    on_ok_weaker c.keep_free.result (λ h. grind (arith, h))
    (undone_on_ok c.args.age c.args.lock v w opened (map_with_value c.in-Ok.entry w).entries (c.in-Ok.ensures.update.2 v) found set c.keep_free.result c.args.self.now c.keep_free.ensures.locks is)

pub returns-clause-err : goal.returns-clause-err
returns-clause-err c =
    let v = c.or_insert-locks.result.now in
    let w = c.keep_free.new.locks in
    let at = is_at (nat_cmp c.args.age) in
    let es = c.self.inside.owners.entries in
    let puts = c.in-Ok.ensures.update.1 in
    let opened = (map_with_value c.in-Ok.entry v).entries in
    let found = ap (lookup at) (puts v) ∙ put_there nat_cmp nat_cmp_total c.args.age v es in
    let set = puts w ∙ put_again nat_cmp nat_cmp_total c.args.age v w es ∙ ap (λ (fs : List (ℕ × Vec code.Lock)). set_value at fs w) (sym (puts v)) in
    let own = c.or_insert-locks.ensures.value ∙ ap (λ o. unwrap_or o c.new.result) c.in-Ok.ensures.value in
    let is = ap listed (puts v) ∙ listed_open c.args.age c.new.result v es c.self.invariant.ordered c.new.ensures.items own ∙ c.self.view_is in
    on_err_weaker c.keep_free.result (λ h. grind (arith, h))
    (listed_on_err c.args.age c.args.lock v w opened (map_with_value c.in-Ok.entry w).entries (c.in-Ok.ensures.update.2 v) found set c.keep_free.result c.args.self.now c.keep_free.ensures.locks is)
