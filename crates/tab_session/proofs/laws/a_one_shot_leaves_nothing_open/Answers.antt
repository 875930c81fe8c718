use Rattle.tab_session.proofs.DriverEnds.{none_left_open, none_left_queued}
use Rattle.tab_session.proofs.laws.a_one_shot_leaves_nothing_open.Goals as goal

pub returns : goal.returns
returns c = record { levels = none_left_open; queue = none_left_queued }
