use Rattle.std.proofs.Common.{◌≡◌, Bool, true, false, ◌||◌, IsFalse, sym, ◌∙◌}
use Rattle.tab_server.proofs.Unlogged.{silent}
use Rattle.tab_server.proofs.puts.Puts.ask.Goals as goal

second_false : (a b : Bool) → IsFalse (a || b) → b ≡ false
second_false true b e = absurd cc
second_false false b e = e

pub returns-clause-silent : goal.returns-clause-silent
returns-clause-silent c none other =
    silent c.args.command.now (sym c.may_put.ensures ∙ second_false c.args.self.now.may_have c.may_put.result none) other
