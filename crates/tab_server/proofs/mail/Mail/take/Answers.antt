use Rattle.std.proofs.Common.{refl}
use Rattle.tab_server.proofs.Gathering.{adds_none, adds_one, gathers_all, of_ok}
use Rattle.tab_server.proofs.mail.Mail.take.Goals as goal

pub returns-in_default-clause-gathers : goal.returns-in_default-clause-gathers
returns-in_default-clause-gathers g c whole =
    gathers_all c.args.delivery _ _ _ _ _ _ (adds_none c.args.delivery _ _ c.args.self.now.frames.items c.in_default.ensures.next) refl

pub returns-clause-gathers : goal.returns-clause-gathers
returns-clause-gathers g c whole =
    gathers_all c.args.delivery _ _ _ _ _ _
    (adds_one c.args.delivery _ _ _ _ c.in-Some.item c.in-Some.ensures.next
    (of_ok c.append.result c.if-is_err.ensures.value c.append.ensures)) refl
