use Rattle.std.proofs.Common.{◌≡◌, ◌<◌, ◌≤◌, ◌++◌, ◌∷◌, [], ℕ, length, get_or, Some, ap, sym, ◌∙◌, subst, arith}
use Rattle.std.proofs.lemmas.Bool.{eqb-false, eqb-true}
use Rattle.tab_term.specs.Data.{count, terms_list}
use Rattle.tab_lists.specs.EventTerms.{event_term}
use Rattle.tab_lists.proofs.ListsLemmas.{list-plain, plain-list}
use Rattle.tab_model.specs.declared.data.Event.{Event}
use Rattle.tab_model.specs.Slices.{shape_at}
use Rattle.tab_model.specs.State.{level_in}
use Rattle.tab_subs.proofs.Batches.{set_same, event_told, batch_told, count-list, none_told}
use Rattle.tab_subs.proofs.session.Session.batch.Goals as goal

within : (i n m : ℕ) → n ≡ m → i < m → i < n
within i n m e h = omega (arith, e, h)

past : (i n m : ℕ) → n ≡ m → m ≤ i → n ≤ i
past i n m e h = omega (arith, e, h)

pub loop-event-preserved : goal.loop-event-preserved
loop-event-preserved g c =
    let events = c.args.events.now.items in
    let e = c.event-item.result in
    let i = c.loop-event.event-index in
    let watching = c.args.self.now.watching in
    let same = c.loop-event.invariant.same in
    let level = sym (c.level.ensures ∙ ap (level_in watching) c.table.ensures) ∙ c.in-Some.is in
    let stood = get_or c.loop-event.event-items i e in
    let term = event_term c.in_ok-told.field-0 in
    let told = subst (λ (x : Event). shape_at (level_in watching x.tab) x ≡ Some term) (sym c.event-item.is) (ap (λ l. shape_at l stood) level ∙ ap Some (sym c.in_ok-told.ensures.told)) in
    record {
      same = set_same c.loop-event.event-items i c.told.new.self e c.told.ensures.same ∙ same;
      told =
          event_told (λ (x : Event). shape_at (level_in watching x.tab) x) events i e (terms_list c.loop-event.told) (terms_list c.push.new.self) term
          (subst (λ z. i < length z) same (within _ _ _ c.loop-event.auto.event-items c.loop-event-test.true)) (c.event-item.is ∙ ap (λ z. get_or z i e) same) told (ap terms_list c.in_ok-push.ensures.ok ∙ list-plain (terms_list c.loop-event.told ++ term ∷ []))
          ∙ c.loop-event.invariant.told;
    }

pub returns-then-is_empty-clause-item : goal.returns-then-is_empty-clause-item
returns-then-is_empty-clause-item g c =
    let events = c.args.events.now.items in
    let i = c.loop-event.event-index in
    none_told c.args.commit (λ (x : Event). shape_at (level_in c.args.self.now.watching x.tab) x) events i (terms_list c.loop-event.told)
    (subst (λ z. length z ≤ i) c.loop-event.invariant.same (past i _ _ c.loop-event.auto.event-items c.loop-event-test.false))
    (sym (count-list c.loop-event.told) ∙ eqb-true (count c.loop-event.told) 0 (sym c.is_empty.ensures ∙ c.if-is_empty.true)) c.loop-event.invariant.told

pub returns-clause-item : goal.returns-clause-item
returns-clause-item g c =
    let events = c.args.events.now.items in
    let i = c.loop-event.event-index in
    ap (λ z. z ∷ []) c.in_ok-new.ensures
    ∙ batch_told c.args.commit (λ (x : Event). shape_at (level_in c.args.self.now.watching x.tab) x) events i (terms_list c.loop-event.told) c.loop-event.told
    (subst (λ z. length z ≤ i) c.loop-event.invariant.same (past i _ _ c.loop-event.auto.event-items c.loop-event-test.false))
    (λ e. eqb-false (count c.loop-event.told) 0 (sym c.is_empty.ensures ∙ c.if-is_empty.false) (count-list c.loop-event.told ∙ e)) (sym (plain-list c.loop-event.told)) c.loop-event.invariant.told
