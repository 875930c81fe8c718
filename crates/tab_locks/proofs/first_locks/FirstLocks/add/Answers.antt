use Rattle.std.proofs.Common.{sym, ap, ◌∙◌, ◌&&◌, ◌||◌, ◌==◌, not}
use Rattle.std.specs.List.{list_any}
use Rattle.tab_term.specs.Abbreviations.{number}
use Rattle.tab_term.specs.View.{term}
use Rattle.tab_locks.specs.Spots.{stands_on_key}
use Rattle.tab_locks.proofs.FirstLocks.{numbered_put, held_more, tied_other}
use Rattle.tab_locks.proofs.first_locks.FirstLocks.add.Goals as goal

pub invariant_of-self-2 : goal.invariant_of-self-2
invariant_of-self-2 c = record {
  apart = c.in_ok-met.ensures.apart;
  under = numbered_put c.args.key.now (c.args.age, c.args.write) c.args.number c.in_ok-met.met c.self.inside.locks c.place.new.self c.requires c.in_ok-met.ensures.put c.self.invariant.under;
}

pub returns-clause-more : goal.returns-clause-more
returns-clause-more c = λ there p.
    let k = c.args.key.now in
    held_more k (c.args.age, c.args.write) c.args.number c.self.inside.locks c.in_ok-met.met c.place.new.self c.requires c.in_ok-met.ensures.met c.in_ok-met.ensures.put (sym c.is_held.ensures ∙ there) p
    ∙ (λ i. p (term k, (c.args.age, c.args.write)) || list_any p (c.self.view_is i))

pub returns-clause-tied : goal.returns-clause-tied
returns-clause-tied c = λ other.
    let k = c.args.key.now in
    ap (list_any (λ s. (number s.0 == c.args.number) && not (stands_on_key (term k) (c.args.age, c.args.write) s))) (sym c.self.view_is)
    ∙ tied_other k (c.args.age, c.args.write) c.args.number c.self.inside.locks c.in_ok-met.met c.self.invariant.under c.in_ok-met.ensures.met (sym c.is_held.ensures ∙ other)
