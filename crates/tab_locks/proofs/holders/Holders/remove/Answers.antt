use Rattle.std.proofs.Common.{ap, ◌∙◌, ◌&&◌, not, rules}
use Rattle.std.specs.List.{list_any}
use Rattle.std.proofs.lemmas.Fn.{filter_same}
use Rattle.tab_locks.specs.Spots.{Holding, is_holding}
use Rattle.tab_locks.proofs.Holdings.{dropped_both}
use Rattle.tab_locks.proofs.holders.Holders.remove.Goals as goal

pub returns : goal.returns
returns c = λ p.
    let h : Holding = (c.args.age, c.args.write) in
    let kept = filter_same _ (λ (x : Holding). not (is_holding h x)) _ (λ x b f t. search rules) _ _ c.retain.ensures.filtered in
    let one = c.unless_it-self-inside in
    dropped_both h c.self.inside.first one.result c.self.inside.others.items c.retain.new.self.items one.ensures kept p
    ∙ ap (list_any (λ x. p x && not (is_holding h x))) c.self.view_is
