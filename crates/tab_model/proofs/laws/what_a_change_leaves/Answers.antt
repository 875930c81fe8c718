use Rattle.tab_model.proofs.ChangeLaws.{key_deleted, object_deleted}
use Rattle.tab_model.proofs.laws.what_a_change_leaves.Goals as goal

pub returns-clause-deleted : goal.returns-clause-deleted
returns-clause-deleted c = key_deleted

pub returns-clause-object_deleted : goal.returns-clause-object_deleted
returns-clause-object_deleted c = object_deleted
