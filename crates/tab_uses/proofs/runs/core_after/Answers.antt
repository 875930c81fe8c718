-- A new core is tied to the empty log, and the run keeps it tied to what it adds.
use Rattle.std.proofs.Common.{[]}
use Rattle.tab_model.specs.Run.{IsTied}
use Rattle.tab_uses.proofs.runs.core_after.Goals as goal

pub returns : goal.returns
returns g c =
    let run = c.in_ok-replies.ensures.run in
    let tied : IsTied c.new-core.result [] (λ m. []) = rw c.new-core.ensures (c.steps_keep_what_holds.ensures.new_tied c.args.limits) in
    (run.0, rw c.new-core.ensures at run.1, run.2 [] (λ m. []) tied)
