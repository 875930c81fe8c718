use Rattle.std.proofs.Common.{sym, ap}
use Rattle.std.specs.Prelude.{◌^◌, ◌-◌, min}
use Rattle.tab_core.specs.Parts.{parts_of}
use Rattle.tab_core.proofs.OutermostLemmas as lemmas
use Rattle.tab_core.proofs.machine.Machine.levels.Goals as goal

pub returns-in-None : goal.returns-in-None
returns-in-None g c = ap (λ k. min k (2 ^ 64 - 1)) (sym (lemmas.stranger_levels (parts_of c.args.self.now) c.args.session c.in-None.ensures))
