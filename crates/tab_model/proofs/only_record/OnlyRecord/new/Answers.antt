use Rattle.std.proofs.Common.{sym, ap, ◌∙◌, subst, [], ◌∷◌}
use Rattle.tab_term.specs.View.{term}
use Rattle.tab_model.specs.Tables.{key as key_of_row}
use Rattle.tab_model.specs.OnlyRecords.{IsOnly, record_in}
use Rattle.tab_model.proofs.ShapeLaws.{term_held}
use Rattle.tab_model.proofs.only_record.OnlyRecord.new.Goals as goal

pub invariant_of-result : goal.invariant_of-result
invariant_of-result c =
    let held = sym (term_held (term c.args.row)) in
    subst (λ e. IsOnly (term (record_in e)) e) (sym (c.in_ok-new.ensures ∙ ap (λ rs. (c.in_ok-key.key, rs)) c.only.ensures)) record {
      key = c.in_ok-key.ensures ∙ ap key_of_row held;
      only = ap (λ r. r ∷ []) held;
    }
