use Rattle.std.proofs.Common.{rules, ◌≡◌, ◌∷◌, ◌∙◌, sym, ap, subst}
use Rattle.tab_map.specs.Ahead.{AreAhead}
use Rattle.tab_map.specs.Entries.{entries_above}
use Rattle.tab_map.proofs.EntriesLeftLemmas.{left_is, left_ahead, left_none, left_behind, left_rest, fewer}
use Rattle.tab_map.proofs.iter.IterIterator.next.Goals.{then-not-is_known, else-not-is_known}
use Rattle.tab_map.proofs.iter.IterIterator.next.Goals as goal

pub invariant_of-self : goal.invariant_of-self
invariant_of-self g c =
    let end = c.in_err-entry.ensures _ c.self.invariant.1 in
    (c.self.invariant.0, left_ahead g.met.K.Ord.total _ _ c.step.new.self (left_none g.K.Ord.cmp c.self.inside.map.now _ end.0) end.1)

pub returns-in_err-entry-clause-steps : goal.returns-in_err-entry-clause-steps
returns-in_err-entry-clause-steps g c =
    let end = c.in_err-entry.ensures _ c.self.invariant.1 in
    rw c.from_residual.ensures (sym c.self.view_is ∙ end.0, left_is g.met.K.Ord.total _ _ c.step.new.self (left_none g.K.Ord.cmp c.self.inside.map.now _ end.0) end.1 ∙ end.0)

pub invariant_of-self-then-not-is_known : goal.invariant_of-self-then-not-is_known
invariant_of-self-then-not-is_known g c =
    let step = c.in_ok-entry.ensures _ c.self.invariant.1 in
    let is = left_behind g.met.K.Ord.total _ step.0 c.self.inside.ahead c.in_ok-entry.entry.now c.self.invariant.1 step.1.0 in
    let ahead : AreAhead c.seek.new.self (entries_above g.K.Ord.cmp c.in_ok-entry.entry.now.0 c.self.inside.map.now) = c.seek.ensures in
    (c.self.invariant.0, left_ahead g.met.K.Ord.total _ _ c.seek.new.self (left_rest g.met.K.Ord.total _ _ c.in_ok-entry.entry.now c.self.invariant.0 is) (subst (AreAhead c.seek.new.self) (sym is) ahead))

pub invariant_of-self-else-not-is_known : goal.invariant_of-self-else-not-is_known
invariant_of-self-else-not-is_known g c =
    let step = c.in_ok-entry.ensures _ c.self.invariant.1 in
    let is = left_behind g.met.K.Ord.total _ step.0 c.self.inside.ahead c.in_ok-entry.entry.now c.self.invariant.1 step.1.0 in
    let ahead = c.is_known.ensures step.0 (search rules) step.1.1 in
    (c.self.invariant.0, left_ahead g.met.K.Ord.total _ _ c.step.new.self (left_rest g.met.K.Ord.total _ _ c.in_ok-entry.entry.now c.self.invariant.0 is) ahead)

pub returns-clause-steps : goal.returns-clause-steps
returns-clause-steps g c =
    let step = c.in_ok-entry.ensures _ c.self.invariant.1 in
    let is = left_behind g.met.K.Ord.total _ step.0 c.self.inside.ahead c.in_ok-entry.entry.now c.self.invariant.1 step.1.0 in
    let rest = left_rest g.met.K.Ord.total _ _ c.in_ok-entry.entry.now c.self.invariant.0 is in
    let left : c.if-not-is_known.self ≡ step.0 =
    elim c.if-not-is_known.branch [
      | then-not-is_known w ↦ let ahead : AreAhead w.seek.new.self (entries_above g.K.Ord.cmp c.in_ok-entry.entry.now.0 c.self.inside.map.now) = w.seek.ensures in w.self-is ∙ left_is g.met.K.Ord.total _ _ w.seek.new.self rest (subst (AreAhead w.seek.new.self) (sym is) ahead)
      | else-not-is_known w ↦ w.self-is ∙ left_is g.met.K.Ord.total _ _ c.step.new.self rest (w.if-not-is_known.ensures step.0 (search rules) step.1.1)
    ] in
    sym c.self.view_is ∙ step.1.0 ∙ ap (λ z. c.in_ok-entry.entry.now ∷ z) (sym left)

pub returns-clause-goes : goal.returns-clause-goes
returns-clause-goes g c = record { on = λ finite. (tt, tt, fewer _ _ _ (returns-clause-steps g c)); keeps = tt; rests = λ _. tt }
