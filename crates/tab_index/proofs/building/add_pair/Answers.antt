use Rattle.std.proofs.Common.{◌≡◌, ◌++◌, ◌∷◌, [], sym, ap, ap₂, ◌∙◌, subst, arith, false}
use Rattle.std.proofs.lemmas.List.{nil_from_length}
use Rattle.std.proofs.lemmas.Result.{on_ok_weaker}
use Rattle.tab_term.specs.Order.{term_cmp}
use Rattle.tab_term.specs.Same.{same}
use Rattle.tab_term.specs.View.{term}
use Rattle.tab_map.specs.KeyList.{insert_key}
use Rattle.tab_index.specs.FurtherOf.{IsAdded}
use Rattle.tab_index.specs.IndexOf.{has_pair}
use Rattle.tab_index.specs.Pairs.{Pair}
use Rattle.tab_index.proofs.FurtherLemmas.{added_raised, added_first}
use Rattle.tab_index.proofs.PairsLemmas.{last_has, others_have, key_there, key_added, entry_added, first_added}
use Rattle.tab_index.proofs.building.add_pair.Goals as goal
use Rattle.tab_index.proofs.building.add_pair.Goals.{in-Some+else-eq, in_default}

pub returns-then-contains-clause-next : goal.returns-then-contains-clause-next
returns-then-contains-clause-next c =
    let es = c.args.entries.now in
    let e = c.in-Some.last.now in
    let item = c.in-Some.ensures.item in
    let value = c.pair.inside.value.now in
    let k = c.pair.inside.key.now in
    let one = sym c.eq.ensures ∙ c.if-eq.true in
    let there = last_has es.items es.len e _ value k es.ok.0 item.3.0 item.1 c.requires one ∙ sym c.contains.ensures.found ∙ c.if-contains.true in
    on_ok_weaker c.raise.result (λ h. key_there es.items es.len e c.args.pair.now value k es.ok.0 item.3.0 item.1 c.requires one c.pair.view_is there) c.raise.ensures

pub returns-then-contains-clause-further : goal.returns-then-contains-clause-further
returns-then-contains-clause-further c =
    let es = c.args.entries.now in
    let e = c.in-Some.last.now in
    let item = c.in-Some.ensures.item in
    let value = c.pair.inside.value.now in
    let k = c.pair.inside.key.now in
    let ms = c.args.further.now.by_key in
    let ns = c.raise.new.self.by_key in
    let one = sym c.eq.ensures ∙ c.if-eq.true in
    let there = last_has es.items es.len e _ value k es.ok.0 item.3.0 item.1 c.requires one ∙ sym c.contains.ensures.found ∙ c.if-contains.true in
    on_ok_weaker c.raise.result
    (λ w. subst (λ (q : Pair). IsAdded es.items ms ns q.0 q.1) c.pair.view_is (added_raised es.items ms ns value k there w))
    c.raise.ensures

pub returns-then-eq-clause-next : goal.returns-then-eq-clause-next
returns-then-eq-clause-next c =
    let es = c.args.entries.now in
    let e = c.in-Some.last.now in
    let item = c.in-Some.ensures.item in
    on_ok_weaker c.insert.result
    (λ h. key_added es.items es.len e c.args.pair.now c.pair.inside.value.now c.pair.inside.key.now c.insert.new.self es.ok.0 item.3.0 item.1 c.requires
    (sym c.eq.ensures ∙ c.if-eq.true) c.pair.view_is (h ∙ ap (λ k. insert_key term_cmp k e.1) c.in_ok-try_clone.ensures))
    c.insert.ensures.ok

pub returns-then-eq-clause-further : goal.returns-then-eq-clause-further
returns-then-eq-clause-further c =
    let es = c.args.entries.now in
    let e = c.in-Some.last.now in
    let item = c.in-Some.ensures.item in
    let value = c.pair.inside.value.now in
    let k = c.pair.inside.key.now in
    let ms = c.args.further.now.by_key in
    let absent = last_has es.items es.len e _ value k es.ok.0 item.3.0 item.1 c.requires (sym c.eq.ensures ∙ c.if-eq.true) ∙ sym c.contains.ensures.found ∙ c.if-contains.false in
    on_ok_weaker c.insert.result
    (λ h. subst (λ (q : Pair). IsAdded es.items ms ms q.0 q.1) c.pair.view_is (added_first es.items ms value k absent))
    c.insert.ensures.ok

pub returns-clause-next : goal.returns-clause-next
returns-clause-next c =
    let es = c.args.entries.now in
    let value = c.pair.inside.value.now in
    let key = c.pair.inside.key.now in
    let keys = c.in_ok-insert.ensures.ok ∙ ap₂ (insert_key term_cmp) c.in_ok-try_clone-2.ensures c.new-keys.ensures in
    let made = c.in_ok-push.ensures.items ∙ ap₂ (λ v ks. c.match-last_mut.entries.items ++ (v, ks) ∷ []) c.in_ok-try_clone-3.ensures keys in
    elim c.match-last_mut.branch [
      | in-Some+else-eq w ↦
          let e = w.in-Some.last.now in
          let item = w.in-Some.ensures.item in
          let other = ap (λ z. same (term e.0) z.0) (c.pair.view_is ∙ sym c.pair.view_is) ∙ sym w.eq.ensures ∙ w.if-eq.false in
          entry_added es.items es.len e c.args.pair.now value key c.push.new.self.items es.ok.0 item.3.0 item.1 c.requires other c.pair.view_is
          (made ∙ ap (λ v. v.items ++ (value, key ∷ []) ∷ []) w.entries-is)
      | in_default w ↦
          let none = nil_from_length es.items (omega (arith, w.in_default.ensures.item.3)) in
          first_added es.items c.args.pair.now value key c.push.new.self.items none c.pair.view_is (made ∙ ap (λ v. v.items ++ (value, key ∷ []) ∷ []) w.entries-is)
    ]

pub returns-clause-further : goal.returns-clause-further
returns-clause-further c =
    let es = c.args.entries.now in
    let value = c.pair.inside.value.now in
    let k = c.pair.inside.key.now in
    let ms = c.args.further.now.by_key in
    let absent : has_pair es.items value k ≡ false = elim c.match-last_mut.branch [
      | in-Some+else-eq w ↦
          let e = w.in-Some.last.now in
          let item = w.in-Some.ensures.item in
          let other = ap (λ z. same (term e.0) z.0) (c.pair.view_is ∙ sym c.pair.view_is) ∙ sym w.eq.ensures ∙ w.if-eq.false in
          others_have es.items es.len e _ value k es.ok.0 item.3.0 item.1 c.requires (ap (λ z. z.0) (sym c.pair.view_is)) other
      | in_default w ↦ ap (λ z. has_pair z value k) (nil_from_length es.items (omega (arith, w.in_default.ensures.item.3)))
    ] in
    subst (λ (q : Pair). IsAdded es.items ms ms q.0 q.1) c.pair.view_is (added_first es.items ms value k absent)
