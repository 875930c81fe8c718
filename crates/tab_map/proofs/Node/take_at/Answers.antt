use Rattle.std.proofs.Common.{sym, ap, ◌∙◌, subst}
use Rattle.tab_map.specs.Entries.{Ascends}
use Rattle.tab_map.specs.InOrder.{spread}
use Rattle.tab_map.proofs.SpreadLemmas.{found_remove}
use Rattle.tab_map.proofs.RemovalLemmas.{taken_in_turn, taken_whole, remove_set, ascends_without}
use Rattle.tab_map.proofs.Node.take_at.Goals as goal

pub merge-requires : goal.merge-requires
merge-requires g c =
    let taken = rw c.in-Some.is at c.in_ok-entry.ensures.ok in
    subst (Ascends g.K.Ord.cmp) (sym (taken_in_turn c.args.n c.args.self.now.branches.items c.args.self.now.last c.index_mut.result.now record { below = c.take_last.new.self; entry = c.index_mut.result.now.entry } c.index_mut-in-Some.result.now c.in-Some.entry c.requires.in_node c.index_mut.ensures.value taken c.index_mut-in-Some.ensures.value)) (ascends_without g.K.Ord.cmp c.args.n c.args.self.now.branches.items c.args.self.now.last c.requires.in_node c.requires.sorted)

pub returns-in-Some-clause-ok : goal.returns-in-Some-clause-ok
returns-in-Some-clause-ok g c =
    let taken = rw c.in-Some.is at c.in_ok-entry.ensures.ok in
    λ k found. c.merge.ensures.same ∙ taken_in_turn c.args.n c.args.self.now.branches.items c.args.self.now.last c.index_mut.result.now record { below = c.take_last.new.self; entry = c.index_mut.result.now.entry } c.index_mut-in-Some.result.now c.in-Some.entry c.requires.in_node c.index_mut.ensures.value taken c.index_mut-in-Some.ensures.value
    ∙ found_remove g.met.K.Ord.total k c.args.self.now.branches.items c.args.n c.args.self.now.last found c.requires.sorted

pub returns-in-None-clause-ok : goal.returns-in-None-clause-ok
returns-in-None-clause-ok g c =
    let taken = rw c.in-None.is at c.in_ok-entry.ensures.ok in
    λ k found. ap (λ z. spread z c.args.self.now.last) (c.remove.ensures.items ∙ remove_set c.args.self.now.branches.items c.args.n _)
    ∙ taken_whole c.args.n c.args.self.now.branches.items c.args.self.now.last c.index_mut.result.now c.requires.in_node c.index_mut.ensures.value taken.0
    ∙ found_remove g.met.K.Ord.total k c.args.self.now.branches.items c.args.n c.args.self.now.last found c.requires.sorted
