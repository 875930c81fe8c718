use Rattle.std.proofs.Common.{ap, ◌∙◌}
use Rattle.tab_rows.specs.Former.{all_put_back}
use Rattle.tab_rows.proofs.RestoredLemmas.{last_first}
use Rattle.tab_rows.proofs.rows.Rows.make.Goals as goal

-- what is kept undoes the change
pub returns-clause-kept : goal.returns-clause-kept
returns-clause-kept c =
    let ss = c.reserve.new.self.items in
    let new = c.exchange.new.self in
    ap (all_put_back new) c.push_reserved.ensures.items ∙ last_first new ss c.in_ok-before.before
    ∙ ap (λ v. all_put_back v ss) c.in_ok-before.ensures.former ∙ ap (all_put_back c.args.self.now) c.in_ok-reserve.ensures.items
