use Rattle.std.proofs.Common.{sym, ◌∙◌}
use Rattle.tab_core.specs.Parts.{parts_of, state_of}
use Rattle.tab_core.proofs.OutermostLemmas as lemmas
use Rattle.tab_core.proofs.machine.Machine.outermost.Goals as goal

pub returns-in-None : goal.returns-in-None
returns-in-None g c =
    let m = parts_of c.args.self.now in
    sym (lemmas.none_ends (state_of m) c.args.session (lemmas.stranger_none m c.args.session c.in-None.ensures))

pub returns-then-waits : goal.returns-then-waits
returns-then-waits g c =
    let m = parts_of c.args.self.now in
    sym (lemmas.none_ends (state_of m) c.args.session (lemmas.waits_none (state_of m) c.args.session (sym (c.waits.ensures) ∙ c.if-waits.true)))

pub ending-requires-clause-idle : goal.ending-requires-clause-idle
ending-requires-clause-idle g c = sym (c.waits.ensures) ∙ c.if-waits.false
