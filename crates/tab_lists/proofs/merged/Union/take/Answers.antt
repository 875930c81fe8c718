use Rattle.std.proofs.Common.{ap, sym, ◌∙◌, subst, List, slice_get}
use Rattle.std.specs.Option.{option_copied}
use Rattle.tab_term.specs.Order.{term_cmp}
use Rattle.tab_map.specs.Entries.{Ascends}
use Rattle.tab_lists.specs.declared.merged.Union.TheInside.{Inside}
use Rattle.tab_lists.specs.ByKey.{Entry, merged}
use Rattle.tab_lists.specs.Left.{ahead, left_of}
use Rattle.tab_lists.specs.Lists.{Gives}
use Rattle.tab_lists.proofs.WalkLemmas.{none_first, alone, rest_alone, less, greater, equal}
use Rattle.tab_lists.proofs.merged.Union.take.Goals as goal

pub returns-in_default : goal.returns-in_default
returns-in_default c =
    let own = c.self-inside.inside.0.0 in
    let committed = ahead c.self-inside.inside.0.1.0.next (left_of c.self-inside.inside.0.1.0.left) in
    subst (λ (z : List Entry). Gives z c.next_of.result (merged c.next_of.new.entries committed)) (ap (λ (x : Inside). merged x.own x.committed) c.self-inside.view_is ∙ c.self.view_is)
    (alone own committed c.next_of.new.entries c.next_of.result (subst (λ (x : Inside). Ascends term_cmp x.own) (sym c.self-inside.view_is) c.self.invariant.0)
    (ap (λ n. ahead n (left_of c.self-inside.inside.0.1.0.left)) c.in_default.is) c.next_of.ensures)

pub returns-in_default-peek : goal.returns-in_default-peek
returns-in_default-peek c =
    subst (λ (z : List Entry). Gives z c.take.result (merged c.self.inside.own c.take.new.self)) c.self.view_is
    (rest_alone c.self.inside.own c.self.inside.committed c.take.new.self c.take.result (none_first c.self.inside.own (sym c.peek.ensures ∙ ap option_copied c.in_default-peek.is)) c.take.ensures)

pub returns-in-Less : goal.returns-in-Less
returns-in-Less c =
    subst (λ (z : List Entry). Gives z c.take-in-Less.result (merged c.self.inside.own c.take-in-Less.new.self)) c.self.view_is
    (less c.self.inside.own c.self.inside.committed c.take-in-Less.new.self c.take-in-Less.result (c.in-Some.key.now, c.in-Some.field-0-1.now) c.in-Some-peek.own.now
    (sym (ap (λ (x : Inside). slice_get x.committed 0) c.self-inside.view_is) ∙ ap (λ n. slice_get (ahead n (left_of c.self-inside.inside.0.1.0.left)) 0) c.in-Some.is) (sym c.peek.ensures ∙ ap option_copied c.in-Some-peek.is)
    (ap (λ b. term_cmp c.in-Some.key.now b.0) (sym c.pair.ensures) ∙ sym c.cmp.ensures ∙ c.in-Less.is) c.self.invariant.0 c.take-in-Less.ensures)

pub returns-in-Equal : goal.returns-in-Equal
returns-in-Equal c =
    subst (λ (z : List Entry). Gives z c.next_of-in-Equal.result (merged c.next_of-in-Equal.new.entries c.take-replaced.new.self)) c.self.view_is
    (equal c.self.inside.own c.self.inside.committed c.next_of-in-Equal.new.entries c.take-replaced.new.self c.take-replaced.result c.next_of-in-Equal.result (c.in-Some.key.now, c.in-Some.field-0-1.now) c.in-Some-peek.own.now
    (sym (ap (λ (x : Inside). slice_get x.committed 0) c.self-inside.view_is) ∙ ap (λ n. slice_get (ahead n (left_of c.self-inside.inside.0.1.0.left)) 0) c.in-Some.is) (sym c.peek.ensures ∙ ap option_copied c.in-Some-peek.is)
    (ap (λ b. term_cmp c.in-Some.key.now b.0) (sym c.pair.ensures) ∙ sym c.cmp.ensures ∙ c.in-Equal.is) c.self.invariant.0 c.take-replaced.ensures c.next_of-in-Equal.ensures)

pub returns-in-Greater : goal.returns-in-Greater
returns-in-Greater c =
    subst (λ (z : List Entry). Gives z c.next_of-in-Greater.result (merged c.next_of-in-Greater.new.entries c.self.inside.committed)) c.self.view_is
    (greater c.self.inside.own c.self.inside.committed c.next_of-in-Greater.new.entries c.next_of-in-Greater.result (c.in-Some.key.now, c.in-Some.field-0-1.now) c.in-Some-peek.own.now
    (sym (ap (λ (x : Inside). slice_get x.committed 0) c.self-inside.view_is) ∙ ap (λ n. slice_get (ahead n (left_of c.self-inside.inside.0.1.0.left)) 0) c.in-Some.is) (sym c.peek.ensures ∙ ap option_copied c.in-Some-peek.is)
    (ap (λ b. term_cmp c.in-Some.key.now b.0) (sym c.pair.ensures) ∙ sym c.cmp.ensures ∙ c.in-Greater.is) c.self.invariant.0 c.self.invariant.1 c.next_of-in-Greater.ensures)
