use Rattle.std.proofs.Common.{sym, ap, ◌∙◌, ◌∷◌, []}
use Rattle.tab_model.proofs.TableLaws.{same_true}
use Rattle.tab_rows.proofs.EntriesLemmas.{only_first}
use Rattle.tab_rows.proofs.entries.is_only.Goals as goal

pub returns-then-len-eq1 : goal.returns-then-len-eq1
returns-then-len-eq1 c h =
    only_first c.args.records.now _ (c.in-Some.ensures ∙ ap (λ r. r ∷ []) (same_true _ _ (sym c.eq.ensures ∙ h))) (sym c.len.ensures ∙ c.if-len-eq1.true)
