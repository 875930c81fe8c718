use Rattle.std.proofs.Common.{◌≡◌, IfOk, subst}
use Rattle.tab_model.specs.declared.data.Limits.{Limits}
use Rattle.tabd.specs.Served.{new_book}
use Rattle.tabd.proofs.opening.opened_book.Goals as goal

pub returns : goal.returns
returns g c = subst (λ (ls : Limits). IfOk c.new.result (λ b. b ≡ new_book ls)) c.limits.ensures.limits c.new.ensures
