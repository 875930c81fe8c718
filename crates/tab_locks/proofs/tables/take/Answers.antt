use Rattle.std.proofs.Common.{◌≡◌, ℕ, sym, ap, ◌∙◌, subst, List, Bool, Some, None, OnErr, arith, not}
use Rattle.std.specs.BTreeMap.{is_at, get_key, ContainsKey}
use Rattle.std.specs.List.Sorted.{IsStrictlySortedBy}
use Rattle.std.specs.Map.{keys_of, lookup}
use Rattle.std.specs.BTreeMap.Entry.{map_with_value, map_without_entry, entry_key, entry_value, MatchEntry}
use Rattle.tab_term.specs.Order.{bytes_cmp}
use Rattle.tab_locks.specs.Members.{Drops}
use Rattle.tab_locks.specs.Filled.{HasNoneEmpty}
use Rattle.tab_locks.specs.Plain.{is_write, lock_of, part_of}
use Rattle.tab_locks.specs.Spots.{Spot, locks_in, stands_on, holds_at}
use Rattle.tab_locks.proofs.Passing.{none_there}
use Rattle.tab_locks.proofs.TableLocks.{dropped_put, dropped_last, dropped_none, none_in}
use Rattle.tab_locks.proofs.Filled.{filled_inserted, filled_without}
use Rattle.tab_locks.proofs.tables.take.Goals as goal

abbrev Entries : Type 0
Entries = List (List ℕ × List Spot)

pub returns-then-is_occupied-clause-ordered : goal.returns-then-is_occupied-clause-ordered
returns-then-is_occupied-clause-ordered c =
    let w = c.remove.new.self in
    let wrote = c.get_mut-spots.ensures.written w in
    subst (λ (es : Entries). IsStrictlySortedBy bytes_cmp (keys_of es)) (grind (arith, wrote.0, wrote.1, c.in-Occupied.is)) (c.in-Ok.ensures.update.2 w)

pub returns-then-is_occupied-clause-filled : goal.returns-then-is_occupied-clause-filled
returns-then-is_occupied-clause-filled c =
    let w = c.remove.new.self in
    let wrote = c.get_mut-spots.ensures.written w in
    let one = sym c.is_occupied.ensures ∙ c.if-is_occupied.true in
    let filled = filled_inserted bytes_cmp c.args.lock.table w c.args.tables.now.entries (map_with_value c.in-Ok.entry w).entries (c.in-Ok.ensures.update.1 w) c.requires one in
    subst HasNoneEmpty (grind (arith, wrote.0, wrote.1, c.in-Occupied.is)) filled

pub returns-then-is_occupied-clause-dropped : goal.returns-then-is_occupied-clause-dropped
returns-then-is_occupied-clause-dropped c =
    let w = c.remove.new.self in
    let es = c.args.tables.now.entries in
    let wrote = c.get_mut-spots.ensures.written w in
    let found : lookup (is_at (bytes_cmp c.args.lock.table)) es ≡ Some c.get_mut-spots.result.now = sym c.in-Ok.ensures.value ∙ ap entry_value c.in-Occupied.is ∙ c.get_mut-spots.ensures.value in
    let gone_spots = subst (λ (b : Bool). Drops (stands_on (part_of c.args.lock.what) (c.args.age, b)) c.get_mut-spots.result.now w) c.is_write.ensures c.remove.ensures in
    let gone = dropped_put c.args.age c.args.lock.table (part_of c.args.lock.what) (is_write c.args.lock.mode) c.get_mut-spots.result.now w es (map_with_value c.in-Ok.entry w).entries c.in-Ok.ensures.ordered found (c.in-Ok.ensures.update.1 w) gone_spots in
    λ p. grind (arith, wrote.0, wrote.1, c.in-Occupied.is, gone p)

pub returns-in-Err-clause-dropped : goal.returns-in-Err-clause-dropped
returns-in-Err-clause-dropped c =
    let es = c.args.tables.now.entries in
    let same : c.entry.follows.lender-at-none.entries ≡ es = subst (λ r. OnErr r (c.entry.follows.lender-at-none.entries ≡ es)) c.in-Err.is c.entry.follows.holds-at-none in
    subst (λ (new : Entries). Drops (holds_at c.args.age (lock_of c.args.lock)) (locks_in es) (locks_in new)) (sym same) (none_in c.args.age c.args.lock.table (part_of c.args.lock.what) (is_write c.args.lock.mode) es c.in-Err.ensures.absent)

pub returns-else-is_occupied-clause-filled : goal.returns-else-is_occupied-clause-filled
returns-else-is_occupied-clause-filled c =
    let at = is_at (bytes_cmp c.args.lock.table) in
    let wrote = c.get_mut-spots.ensures.written c.remove.new.self in
    subst HasNoneEmpty (grind (arith, c.remove-in-Occupied.ensures.removed, wrote.5, c.in-Ok.ensures.removal.1, c.in-Occupied.is)) (filled_without at c.args.tables.now.entries c.requires)

pub returns-else-is_occupied-clause-dropped : goal.returns-else-is_occupied-clause-dropped
returns-else-is_occupied-clause-dropped c =
    let w = c.remove.new.self in
    let es = c.args.tables.now.entries in
    let wrote = c.get_mut-spots.ensures.written w in
    let found : lookup (is_at (bytes_cmp c.args.lock.table)) es ≡ Some c.get_mut-spots.result.now = sym c.in-Ok.ensures.value ∙ ap entry_value c.in-Occupied.is ∙ c.get_mut-spots.ensures.value in
    let bare = sym (none_there w c.is_occupied.result (ap not c.if-is_occupied.false) c.is_occupied.ensures) in
    let gone_spots = subst (λ (b : Bool). Drops (stands_on (part_of c.args.lock.what) (c.args.age, b)) c.get_mut-spots.result.now w) c.is_write.ensures c.remove.ensures in
    let gone = dropped_last c.args.age c.args.lock.table (part_of c.args.lock.what) (is_write c.args.lock.mode) c.get_mut-spots.result.now w es (map_without_entry c.in-Ok.entry).entries c.in-Ok.ensures.ordered found bare c.in-Ok.ensures.removal.1 gone_spots in
    λ p. grind (arith, c.remove-in-Occupied.ensures.removed, wrote.5, c.in-Occupied.is, gone p)

pub returns-in-Vacant-clause-filled : goal.returns-in-Vacant-clause-filled
returns-in-Vacant-clause-filled c =
    let at = is_at (bytes_cmp c.args.lock.table) in
    subst HasNoneEmpty (grind (arith, c.remove-in-Vacant.ensures.removed, c.insert_entry.ensures.5, c.in-Ok.ensures.removal.1, c.in-Vacant.is)) (filled_without at c.args.tables.now.entries c.requires)

pub returns-in-Vacant-clause-dropped : goal.returns-in-Vacant-clause-dropped
returns-in-Vacant-clause-dropped c =
    let es = c.args.tables.now.entries in
    let missing : lookup (is_at (bytes_cmp c.args.lock.table)) es ≡ None = subst (λ e. MatchEntry e (ContainsKey bytes_cmp c.args.tables.now c.args.lock.table × (get_key bytes_cmp c.args.tables.now c.args.lock.table ≡ Some (entry_key e))) (lookup (is_at (bytes_cmp c.args.lock.table)) es ≡ None)) c.in-Vacant.is c.in-Ok.ensures.found in
    let gone = dropped_none c.args.age c.args.lock.table (part_of c.args.lock.what) (is_write c.args.lock.mode) es (map_without_entry c.in-Ok.entry).entries missing c.in-Ok.ensures.removal.1 in
    λ p. grind (arith, c.remove-in-Vacant.ensures.removed, c.insert_entry.ensures.5, c.in-Vacant.is, gone p)
