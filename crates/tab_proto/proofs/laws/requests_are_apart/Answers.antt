use Rattle.tab_proto.proofs.RequestsApart.{requests_apart}
use Rattle.tab_proto.proofs.laws.requests_are_apart.Goals as goal

pub returns : goal.returns
returns c = requests_apart
