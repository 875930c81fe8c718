use Rattle.tab_etf.proofs.FrameLaws.{first_frames, framed}
use Rattle.tab_etf.proofs.splitting.payloads_are_framed.Goals as goal

pub returns-clause-first : goal.returns-clause-first
returns-clause-first c = first_frames

pub returns-clause-only : goal.returns-clause-only
returns-clause-only c = framed
