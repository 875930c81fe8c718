use Rattle.std.proofs.Common.{sym, ap, ◌++◌, ◌∷◌, [], ◌∙◌}
use Rattle.std.specs.List.{list_all}
use Rattle.std.proofs.lemmas.Bool.{and_parts}
use Rattle.tab_term.specs.View.{term}
use Rattle.tab_model.specs.Tables.{has_key}
use Rattle.tab_index.specs.Indexed.{deletes_one}
use Rattle.tab_index.proofs.BacklogLemmas.{all_have, one_more_part}
use Rattle.tab_index.proofs.backlog.first_deletions.Goals as goal

pub loop-record-init : goal.loop-record-init
loop-record-init c =
    let k = term c.args.key.now in
    record { deletes = ap (list_all (deletes_one k)) c.new-parts.ensures.items; left = ap (list_all (has_key k)) (c.into_iter-record-iterator.ensures.into_iter_gives ∙ c.at-record-items.ensures) ∙ all_have (has_key k) c.args.rows.now.1 }

pub loop-record-preserved : goal.loop-record-preserved
loop-record-preserved c =
    let k = term c.args.key.now in
    let parts = c.loop-record.parts.items in
    let kept = c.loop-record.invariant in
    let is = and_parts (has_key k (term c.in-Some.record.now)) (list_all (has_key k) c.next.new.self) (ap (list_all (has_key k)) (sym c.in-Some.ensures.steps) ∙ kept.left) in
    record {
      deletes = one_more_part k parts c.push.new.self.items c.in_ok-record.record (c.in_ok-push.ensures.items ∙ ap (λ v. parts ++ v ∷ []) c.new.ensures) (ap (λ r. has_key k (term r)) c.in_ok-record.ensures ∙ is.0) kept.deletes;
      left = is.1;
    }
