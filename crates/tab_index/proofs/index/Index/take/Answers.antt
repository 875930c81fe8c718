use Rattle.std.proofs.Common.{sym, ap, ◌∙◌, subst}
use Rattle.std.specs.Option.{option_copied}
use Rattle.std.proofs.lemmas.Bool.{false≢true}
use Rattle.std.proofs.lemmas.Result.{on_ok_weaker}
use Rattle.tab_term.specs.Order.{term_cmp}
use Rattle.tab_term.specs.View.{term}
use Rattle.tab_map.specs.Entries.{insert_entry}
use Rattle.tab_map.specs.KeyList.{contains_key}
use Rattle.tab_index.specs.IndexOf.{keys_in, IsWithout}
use Rattle.tab_index.proofs.IndexOfLemmas.{without_one, without_last, without_none}
use Rattle.tab_index.proofs.index.Index.take.Goals as goal

pub returns-in_default-clause-ok : goal.returns-in_default-clause-ok
returns-in_default-clause-ok c =
    let found = sym c.get.ensures.value ∙ ap option_copied c.in_default.is in
    without_none c.args.self.now.keys c.args.value.now c.args.key.now (ap (λ o. contains_key term_cmp c.args.key.now (keys_in o)) found)

pub returns-then-not-contains-clause-ok : goal.returns-then-not-contains-clause-ok
returns-then-not-contains-clause-ok c =
    let found = ap option_copied (sym c.in-Some.is) ∙ c.get.ensures.value in
    without_none c.args.self.now.keys c.args.value.now c.args.key.now
    (ap (λ o. contains_key term_cmp c.args.key.now (keys_in o)) (sym found) ∙ sym c.contains.ensures.found ∙ c.if-not-contains.true)

pub returns-then-is_empty-clause-ok : goal.returns-then-is_empty-clause-ok
returns-then-is_empty-clause-ok c =
    let es = c.args.self.now.keys in
    let v = c.args.value.now in
    let k = c.args.key.now in
    let found = ap option_copied (sym c.in-Some.is) ∙ c.get.ensures.value in
    on_ok_weaker c.remove.result
    (λ h. subst (λ fs. IsWithout es fs (term v) (term k)) (sym h)
    (without_last es v k c.in-Some.keys.now c.get.ensures.ascends c.contains.ensures.ascends found (sym c.in_ok-left.ensures ∙ c.is_empty.ensures.empty.0 c.if-is_empty.true)))
    c.remove.ensures.ok

pub returns-clause-ok : goal.returns-clause-ok
returns-clause-ok c =
    let es = c.args.self.now.keys in
    let v = c.args.value.now in
    let k = c.args.key.now in
    let found = ap option_copied (sym c.in-Some.is) ∙ c.get.ensures.value in
    let is = ap (λ x. insert_entry term_cmp (x, c.in_ok-left.left) es) c.in_ok-value.ensures ∙ ap (λ ks. insert_entry term_cmp (v, ks) es) c.in_ok-left.ensures in
    on_ok_weaker c.insert.result
    (λ h. subst (λ fs. IsWithout es fs (term v) (term k)) (sym (h ∙ is))
    (without_one es v k c.in-Some.keys.now c.get.ensures.ascends c.contains.ensures.ascends found
    (λ e. false≢true (sym c.if-is_empty.false ∙ c.is_empty.ensures.empty.1 (c.in_ok-left.ensures ∙ e)))))
    c.insert.ensures.ok
