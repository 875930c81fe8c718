use Rattle.tab_model.proofs.ItemsTellTheChanges.{items_tell}
use Rattle.tab_model.proofs.laws.items_tell_the_changes.Goals as goal

pub returns-clause-told : goal.returns-clause-told
returns-clause-told c = items_tell
