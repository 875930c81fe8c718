use Rattle.tab_session.proofs.Rereading.{same_parts}
use Rattle.tab_session.proofs.payload.PayloadSource.again.Goals as goal

pub returns-in-Some : goal.returns-in-Some
returns-in-Some g c parts given =
    let read = c.in-Ok-read_request.ensures.ok in
    same_parts c.args.self.now.bytes.now parts c.in-Some.parts.items _ c.in-Ok-read_request.request _ c.in-Ok.ensures.exact read.0 read.2 c.in-Some.ensures given
