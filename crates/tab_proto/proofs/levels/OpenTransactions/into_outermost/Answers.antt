use Rattle.std.proofs.Common.{ap, sym, ◌∙◌}
use Rattle.tab_proto.specs.Commands.{outermost}
use Rattle.tab_proto.proofs.Outermost.{outermost_first}
use Rattle.tab_proto.proofs.levels.OpenTransactions.into_outermost.Goals as goal

pub returns-in-Some : goal.returns-in-Some
returns-in-Some c =
    c.into_terms.ensures ∙ outermost_first c.self.inside.open.items c.pop.new.self.items c.in-Some.level (sym c.truncate.ensures.items ∙ c.in-Some.ensures.items) ∙ ap outermost c.self.view_is
