use Rattle.std.proofs.Common.{inr}
use Rattle.tab_post.proofs.Prefixes.{prefix_self}
use Rattle.tab_server.proofs.requests.Requests.payload.Goals as goal

pub returns-in-Err-NoMemory-read_command-clause-reply : goal.returns-in-Err-NoMemory-read_command-clause-reply
returns-in-Err-NoMemory-read_command-clause-reply g c = inr (c.new-in-Err-NoMemory-read_command.ensures, prefix_self c.args.self.now.held.seen)
