use Rattle.std.proofs.Common.{◌≡◌, ℕ, List, [], ◌∷◌, sym, ap, subst, ◌∙◌, None, IfOk, nat_cmp}
use Rattle.std.specs.BTreeMap.{is_at}
use Rattle.std.specs.List.{cons_option}
use Rattle.std.specs.Map.{lookup}
use Rattle.std.specs.Option.{option_copied}
use Rattle.tab_locks.specs.declared.key_lock.KeyLock.{KeyLock}
use Rattle.tab_locks.specs.Numbered.{IsApart, Puts, lock_on}
use Rattle.tab_locks.proofs.NumberedLocks.{no_others, apart_alone, put_among, apart_among, on_ok}
use Rattle.tab_locks.proofs.numbered_locks.NumberedLocks.place.Goals as goal

abbrev Entries : Type 0
Entries = List (ℕ × KeyLock)

pub invariant_of-self : goal.invariant_of-self
invariant_of-self c =
    let es = c.self.inside.others.entries in
    let none : es ≡ [] = no_others es (c.is_empty.ensures.0 c.if-is_empty.true) in
    record {
      ordered = c.self.invariant.ordered;
      apart = subst (λ (fs : Entries). IsApart ((c.args.number, c.in_ok-lock.lock) ∷ fs)) (sym none) (apart_alone (c.args.number, c.in_ok-lock.lock));
    }

pub returns-then-is_empty-clause-apart : goal.returns-then-is_empty-clause-apart
returns-then-is_empty-clause-apart c =
    let es = c.self.inside.others.entries in
    let none : es ≡ [] = no_others es (c.is_empty.ensures.0 c.if-is_empty.true) in
    subst (λ (fs : Entries). IsApart ((c.args.number, c.in_ok-lock.lock) ∷ fs)) (sym none) (apart_alone (c.args.number, c.in_ok-lock.lock))

pub invariant_of-self-2 : goal.invariant_of-self-2
invariant_of-self-2 c =
    let missing : lookup (is_at (nat_cmp c.args.number)) (cons_option c.self.inside.first []) ≡ None = sym c.under.ensures ∙ ap option_copied c.in_default.is in
    record {
      ordered = c.place_among.ensures.ordered;
      apart = apart_among c.args.key.now (c.args.age, c.args.write) c.args.number c.self.inside.first c.self.inside.others.entries c.place_among.new.others.entries c.place_among.result
          missing c.place_among.ensures.put c.place_among.ensures.err c.place_among.ensures.ordered c.self.invariant.apart;
    }

pub returns-clause-put : goal.returns-clause-put
returns-clause-put c =
    let k = c.args.key.now in
    let put = put_among k (c.args.age, c.args.write) c.args.number c.self.inside.first c.self.inside.others.entries c.place_among.new.others.entries c.place_among.result c.place_among.ensures.met c.place_among.ensures.put in
    subst (λ (fs : Entries). IfOk c.place_among.result (Puts c.args.number (lock_on k (c.args.age, c.args.write)) fs (cons_option c.self.inside.first c.place_among.new.others.entries))) c.self.view_is put

pub returns-clause-apart : goal.returns-clause-apart
returns-clause-apart c =
    let missing : lookup (is_at (nat_cmp c.args.number)) (cons_option c.self.inside.first []) ≡ None = sym c.under.ensures ∙ ap option_copied c.in_default.is in
    on_ok c.place_among.result
    (apart_among c.args.key.now (c.args.age, c.args.write) c.args.number c.self.inside.first c.self.inside.others.entries c.place_among.new.others.entries c.place_among.result
    missing c.place_among.ensures.put c.place_among.ensures.err c.place_among.ensures.ordered c.self.invariant.apart)
