use Rattle.tab_waitdie.proofs.Retrying.{granted_and_gone}
use Rattle.tab_waitdie.proofs.ages.Ages.retry.Goals as goal

pub returns-clause-after : goal.returns-clause-after
returns-clause-after c = granted_and_gone c.args.self.now c.grant.new.self c.drop_wait.new.self c.args.age c.in_ok-grant.ensures.ok c.drop_wait.ensures
