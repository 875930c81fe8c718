use Rattle.std.proofs.Common.{◌≡◌, sym, ap, ◌∙◌, subst, List, Some, None, OnErr, arith, not}
use Rattle.std.specs.BTreeMap.{is_at, get_key, ContainsKey}
use Rattle.std.specs.List.Sorted.{IsStrictlySortedBy}
use Rattle.std.specs.Map.{keys_of, lookup}
use Rattle.std.specs.BTreeMap.Entry.{map_with_value, map_without_entry, entry_key, entry_value, MatchEntry}
use Rattle.tab_term.specs.declared.term.Term.{Term}
use Rattle.tab_term.specs.View.{term}
use Rattle.tab_term.specs.Order.{term_cmp}
use Rattle.tab_locks.specs.Members.{Drops}
use Rattle.tab_locks.specs.Filled.{HasNoneEmpty}
use Rattle.tab_locks.specs.Spots.{Holding, key_spots, stands_on_key}
use Rattle.tab_locks.proofs.Passing.{none_there}
use Rattle.tab_locks.proofs.KeySpots.{dropped_put, dropped_last, dropped_none, none_at}
use Rattle.tab_locks.proofs.Filled.{filled_inserted, filled_without}
use Rattle.tab_locks.proofs.tied_keys.take.Goals as goal

abbrev Entries : Type 0
Entries = List (Term × List Holding)

pub returns-then-is_occupied-clause-ordered : goal.returns-then-is_occupied-clause-ordered
returns-then-is_occupied-clause-ordered c =
    let w = c.remove.new.self in
    let wrote = c.get_mut-at_key.ensures.written w in
    subst (λ (es : Entries). IsStrictlySortedBy term_cmp (keys_of es)) (grind (arith, wrote.0, wrote.1, c.in-Occupied.is)) (c.in-Ok.ensures.update.2 w)

pub returns-then-is_occupied-clause-filled : goal.returns-then-is_occupied-clause-filled
returns-then-is_occupied-clause-filled c =
    let w = c.remove.new.self in
    let wrote = c.get_mut-at_key.ensures.written w in
    let one = sym c.is_occupied.ensures ∙ c.if-is_occupied.true in
    let filled = filled_inserted term_cmp c.args.key w c.args.holders.now.entries (map_with_value c.in-Ok.entry w).entries (c.in-Ok.ensures.update.1 w) c.requires one in
    subst HasNoneEmpty (grind (arith, wrote.0, wrote.1, c.in-Occupied.is)) filled

pub returns-then-is_occupied-clause-dropped : goal.returns-then-is_occupied-clause-dropped
returns-then-is_occupied-clause-dropped c =
    let w = c.remove.new.self in
    let es = c.args.holders.now.entries in
    let wrote = c.get_mut-at_key.ensures.written w in
    let found : lookup (is_at (term_cmp c.args.key)) es ≡ Some c.get_mut-at_key.result.now = sym c.in-Ok.ensures.value ∙ ap entry_value c.in-Occupied.is ∙ c.get_mut-at_key.ensures.value in
    let gone = dropped_put c.args.key (c.args.age, c.args.write) c.get_mut-at_key.result.now w es (map_with_value c.in-Ok.entry w).entries c.in-Ok.ensures.ordered found (c.in-Ok.ensures.update.1 w) c.remove.ensures in
    λ p. grind (arith, wrote.0, wrote.1, c.in-Occupied.is, gone p)

pub returns-in-Err-clause-dropped : goal.returns-in-Err-clause-dropped
returns-in-Err-clause-dropped c =
    let es = c.args.holders.now.entries in
    let same : c.entry.follows.lender-at-none.entries ≡ es = subst (λ r. OnErr r (c.entry.follows.lender-at-none.entries ≡ es)) c.in-Err.is c.entry.follows.holds-at-none in
    subst (λ (new : Entries). Drops (stands_on_key (term c.args.key) (c.args.age, c.args.write)) (key_spots es) (key_spots new)) (sym same) (none_at c.args.key (c.args.age, c.args.write) es c.in-Err.ensures.absent)

pub returns-else-is_occupied-clause-filled : goal.returns-else-is_occupied-clause-filled
returns-else-is_occupied-clause-filled c =
    let at = is_at (term_cmp c.args.key) in
    let wrote = c.get_mut-at_key.ensures.written c.remove.new.self in
    subst HasNoneEmpty (grind (arith, c.remove-in-Occupied.ensures.removed, wrote.5, c.in-Ok.ensures.removal.1, c.in-Occupied.is)) (filled_without at c.args.holders.now.entries c.requires)

pub returns-else-is_occupied-clause-dropped : goal.returns-else-is_occupied-clause-dropped
returns-else-is_occupied-clause-dropped c =
    let w = c.remove.new.self in
    let es = c.args.holders.now.entries in
    let wrote = c.get_mut-at_key.ensures.written w in
    let found : lookup (is_at (term_cmp c.args.key)) es ≡ Some c.get_mut-at_key.result.now = sym c.in-Ok.ensures.value ∙ ap entry_value c.in-Occupied.is ∙ c.get_mut-at_key.ensures.value in
    let bare = sym (none_there w c.is_occupied.result (ap not c.if-is_occupied.false) c.is_occupied.ensures) in
    let gone = dropped_last c.args.key (c.args.age, c.args.write) c.get_mut-at_key.result.now w es (map_without_entry c.in-Ok.entry).entries c.in-Ok.ensures.ordered found bare c.in-Ok.ensures.removal.1 c.remove.ensures in
    λ p. grind (arith, c.remove-in-Occupied.ensures.removed, wrote.5, c.in-Occupied.is, gone p)

pub returns-in-Vacant-clause-filled : goal.returns-in-Vacant-clause-filled
returns-in-Vacant-clause-filled c =
    let at = is_at (term_cmp c.args.key) in
    subst HasNoneEmpty (grind (arith, c.remove-in-Vacant.ensures.removed, c.insert_entry.ensures.5, c.in-Ok.ensures.removal.1, c.in-Vacant.is)) (filled_without at c.args.holders.now.entries c.requires)

pub returns-in-Vacant-clause-dropped : goal.returns-in-Vacant-clause-dropped
returns-in-Vacant-clause-dropped c =
    let es = c.args.holders.now.entries in
    let missing : lookup (is_at (term_cmp c.args.key)) es ≡ None = subst (λ e. MatchEntry e (ContainsKey term_cmp c.args.holders.now c.args.key × (get_key term_cmp c.args.holders.now c.args.key ≡ Some (entry_key e))) (lookup (is_at (term_cmp c.args.key)) es ≡ None)) c.in-Vacant.is c.in-Ok.ensures.found in
    let gone = dropped_none c.args.key (c.args.age, c.args.write) es (map_without_entry c.in-Ok.entry).entries missing c.in-Ok.ensures.removal.1 in
    λ p. grind (arith, c.remove-in-Vacant.ensures.removed, c.insert_entry.ensures.5, c.in-Vacant.is, gone p)
