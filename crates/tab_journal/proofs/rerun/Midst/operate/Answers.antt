use Rattle.std.proofs.Common.{◌≡◌, sym, subst}
use Rattle.std.specs.Bool.{Decides}
use Rattle.tab_model.specs.Alone.{Mid}
use Rattle.tab_model.specs.Operations.{answer}
use Rattle.tab_journal.proofs.AuditLemmas.{changes}
use Rattle.tab_journal.proofs.rerun.Midst.operate.Goals as goal

pub returns : goal.returns
returns c =
    changes c.args.self c.in_ok-change.field-0 c.args.operation.now c.args.told.now c.in_ok-is_told.field-0
    (subst (λ (m : Mid). Decides c.in_ok-is_told.field-0 (answer m.now c.args.operation.now ≡ c.args.told.now)) c.self.view_is c.in_ok-is_told.ensures)
    c.if-not-branch.false (sym c.if-is_failure.ensures) c.in_ok-change.ensures
