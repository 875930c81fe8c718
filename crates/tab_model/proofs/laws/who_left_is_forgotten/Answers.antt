use Rattle.std.proofs.Common.{refl}
use Rattle.tab_model.proofs.laws.who_left_is_forgotten.Goals as goal

pub returns-clause-tables : goal.returns-clause-tables
returns-clause-tables c = λ b s. refl

pub returns-clause-commits : goal.returns-clause-commits
returns-clause-commits c = λ b s. refl

pub returns-clause-folded : goal.returns-clause-folded
returns-clause-folded c = λ b s t l dump. refl

pub returns-clause-joined : goal.returns-clause-joined
returns-clause-joined c = λ σ s t l dump. refl
