use Rattle.std.proofs.Common.{◌||◌, ◌&&◌, sym, ap, ap₂, ◌∙◌, subst}
use Rattle.std.specs.Option.{option_copied}
use Rattle.tab_term.specs.Order.{term_cmp}
use Rattle.tab_term.specs.Same.{same}
use Rattle.tab_term.specs.View.{term}
use Rattle.tab_model.specs.Tables.{key}
use Rattle.tab_map.specs.KeyList.{contains_key, insert_key, KeysAscend}
use Rattle.tab_index.proofs.BacklogLemmas.{writes_row, writes_none}
use Rattle.tab_index.proofs.IndexOfLemmas.{contains_insert, keys_ascend_insert}
use Rattle.tab_index.proofs.backlog.add_key.Goals as goal

pub returns-in_default-clause-keys : goal.returns-in_default-clause-keys
returns-in_default-clause-keys c = λ k.
    ap (λ b. b || contains_key term_cmp k c.args.keys.now)
    (sym (writes_none c.args.position (term c.args.value.now) (term k) c.args.update.now (sym c.written.ensures ∙ ap option_copied c.in_default.is)))

pub returns-then-eq-clause-keys : goal.returns-then-eq-clause-keys
returns-then-eq-clause-keys c = λ k.
    let ks = c.args.keys.now in
    let row = c.in-Some.row.now in
    let x = term c.args.value.now in
    let made = c.in_ok-insert.ensures.ok ∙ ap (λ j. insert_key term_cmp j ks) c.in_ok-try_clone.ensures in
    let has = ap (λ y. same y x) (sym c.element.ensures) ∙ sym c.eq.ensures ∙ c.if-eq.true in
    let is = writes_row c.args.position x (term k) c.args.update.now row (sym c.written.ensures ∙ ap option_copied c.in-Some.is) ∙ ap₂ (λ b j. b && same (term k) j) has (sym c.key.ensures) in
    ap (contains_key term_cmp k) made ∙ contains_insert k c.key.result.now ks c.requires ∙ ap (λ b. b || contains_key term_cmp k ks) (sym is)

pub returns-then-eq-clause-in_order : goal.returns-then-eq-clause-in_order
returns-then-eq-clause-in_order c =
    let made = c.in_ok-insert.ensures.ok ∙ ap (λ j. insert_key term_cmp j c.args.keys.now) c.in_ok-try_clone.ensures in
    subst (KeysAscend term_cmp) (sym made) (keys_ascend_insert c.key.result.now c.args.keys.now c.requires)

pub returns-clause-keys : goal.returns-clause-keys
returns-clause-keys c = λ k.
    let row = c.in-Some.row.now in
    let x = term c.args.value.now in
    let has = ap (λ y. same y x) (sym c.element.ensures) ∙ sym c.eq.ensures ∙ c.if-eq.false in
    let is = writes_row c.args.position x (term k) c.args.update.now row (sym c.written.ensures ∙ ap option_copied c.in-Some.is) ∙ ap (λ b. b && same (term k) (key (term row))) has in
    ap (λ b. b || contains_key term_cmp k c.args.keys.now) (sym is)
