use Rattle.std.proofs.Common.{sym, ap, ◌∙◌, ◌++◌}
use Rattle.tab_term.specs.Data.{terms_list}
use Rattle.tab_term.specs.View.{term, terms}
use Rattle.tab_lists.proofs.ListsLemmas.{list-plain, copy_step, copy_end}
use Rattle.tab_lists.proofs.shared_terms.SharedTerms.to_terms.Goals as goal

pub loop-term-init : goal.loop-term-init
loop-term-init c =
    ap (λ xs. terms_list (terms xs) ++ c.into_iter-term-iterator.result) c.new-copies.ensures.items
    ∙ c.into_iter-term-iterator.ensures.into_iter_gives
    ∙ sym (list-plain c.iter-term-items.result)
    ∙ ap terms_list c.iter-term-items.ensures

pub loop-term-preserved : goal.loop-term-preserved
loop-term-preserved c =
    copy_step c.loop-term.copies.items c.push.new.self.items c.in_ok-try_clone.field-0 (term c.in-Some.term.now) c.loop-term.term-iterator c.next.new.self _ c.in_ok-push.ensures.items (ap term c.in_ok-try_clone.ensures) c.in-Some.ensures.steps c.loop-term.invariant

pub returns : goal.returns
returns c = c.from_vec.ensures ∙ copy_end c.loop-term.copies.items c.loop-term.term-iterator _ c.in-None.ensures.steps.0 c.loop-term.invariant
