use Rattle.std.proofs.Common.{sym, ◌∙◌}
use Rattle.tab_core.specs.Parts.{parts_of}
use Rattle.tab_core.proofs.OutermostLemmas as lemmas
use Rattle.tab_core.proofs.machine.Machine.commit.Goals as goal

pub returns-in_default-clause-done : goal.returns-in_default-clause-done
returns-in_default-clause-done g c =
    let m = parts_of c.args.self.now in
    lemmas.stranger_commits m c.args.session c.in_default.ensures c.without_entry.result c.without_entry.ensures

pub returns-then-waits-clause-done : goal.returns-then-waits-clause-done
returns-then-waits-clause-done g c =
    let m = parts_of c.args.self.now in
    lemmas.waiting_commits m c.args.session c.in-Some.place c.in-Some.ensures (sym (c.waits.ensures) ∙ c.if-waits.true) c.without_entry-then-waits.result c.without_entry-then-waits.ensures

pub commit_at-requires-clause-idle : goal.commit_at-requires-clause-idle
commit_at-requires-clause-idle g c = sym (c.waits.ensures) ∙ c.if-waits.false
