use Rattle.tab_server.proofs.Rereading.{same_parts}
use Rattle.tab_server.proofs.payload.PayloadSource.again.Goals as goal

pub returns-in-Some : goal.returns-in-Some
returns-in-Some c parts given = same_parts c.args.self.now.bytes.now parts c.in-Some.parts.items c.in-Ok-read_command.command _ c.in-Ok.ensures.exact c.in-Ok-read_command.ensures.ok c.in-Some.ensures given
