use Rattle.std.proofs.Common.{length}
use Rattle.tab_schema.proofs.attributes.+are_different.Given as goal

abbrev pub decreases-are_different : goal.decreases-are_different
decreases-are_different a = length a.names.now
