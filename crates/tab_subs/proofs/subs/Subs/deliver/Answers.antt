use Rattle.std.proofs.Common.{◌≡◌, ◌<◌, ◌≤◌, ◌∷◌, ◌++◌, ℕ, [], length, drop, get_or, ap, sym, ◌∙◌, subst, arith}
use Rattle.std.specs.Prelude.{map, option_to_list}
use Rattle.std.specs.Option.{option_copied}
use Rattle.std.proofs.lemmas.List.{append-nil}
use Rattle.tab_subs.specs.Subscribers.{Subscriber, numbers, Ascends}
use Rattle.tab_subs.specs.Deliveries.{Owed, Delivers, first_of, received, unwatched, joined_if, IsDecided}
use Rattle.tab_subs.proofs.Delivering.{IsUnderWay, none_yet, step, same_numbers, is_expected, all_given, written_back, number-received, number-unwatched}
use Rattle.tab_subs.proofs.subs.Subs.deliver.Goals as goal

within : (i n m : ℕ) → n ≡ m → i < m → i < n
within i n m e h = omega (arith, e, h)

past : (i n m : ℕ) → n ≡ m → m ≤ i → n ≤ i
past i n m e h = omega (arith, e, h)

pub loop-slot-init : goal.loop-slot-init
loop-slot-init g c =
    let n = c.prepared.inside.number in
    let t = c.prepared.inside.ended in
    let old = c.args.self.now in
    let expected = c.args.prepared.items in
    let first = c.deref_mut-slot-items.ensures.value ∙ c.self.view_is in
    record {
      same = ap numbers first;
      way =
          subst (λ o. IsUnderWay n t expected old o (map option_to_list c.prepared.inside.due.items) c.deref_mut-slot-items.result.now 0) (sym c.prepared.invariant.0)
          (subst (λ d. IsUnderWay n t expected old [] d c.deref_mut-slot-items.result.now 0) (sym (ap (λ (o : Owed). o.items) c.prepared.view_is))
          (subst (λ x. IsUnderWay n t expected old [] expected x 0) (sym first) (none_yet n t expected old)));
      room = omega (arith, c.prepared.invariant.1, ap length c.prepared.invariant.0, c.prepared.inside.over.ok.0);
    }

pub loop-slot-preserved-then-not-refused : goal.loop-slot-preserved-then-not-refused
loop-slot-preserved-then-not-refused g c =
    let n = c.prepared.inside.number in
    let t = c.prepared.inside.ended in
    let s = c.slot-item.result in
    let b = c.receive-refused.result in
    let due = map option_to_list c.loop-slot.due.items in
    let stood = get_or c.loop-slot.slot-items c.loop-slot.slot-index s in
    let new = c.receive-refused.ensures.received ∙ ap (λ z. received n b z (unwatched (option_copied c.as_ref.result) stood)) c.next_due.ensures.first ∙ ap (λ z. received n b (first_of due) (unwatched z stood)) c.as_ref.ensures.value ∙ ap (λ z. received n b (first_of due) (unwatched t z)) (sym c.slot-item.is) in
    let same = same_numbers n t (first_of due) c.loop-slot.slot-items c.loop-slot.slot-index s c.receive-refused.new.self b c.slot-item.is new in
    record {
      same = same ∙ c.loop-slot.invariant.same;
      way = step n t c.args.prepared.items c.args.self.now c.loop-slot.over.items due c.loop-slot.slot-items c.loop-slot.slot-index s c.receive-refused.new.self b c.loop-slot.over.items (map option_to_list c.next_due.new.due.items)
          (within _ _ _ c.loop-slot.auto.slot-items c.loop-slot-test.true) c.slot-item.is new (subst (λ (z : Subscriber _). IsDecided b (first_of due) z.outbox) (sym c.slot-item.is) (subst (λ z. IsDecided b z stood.outbox) c.next_due.ensures.first c.receive-refused.ensures.decided))
          (sym (ap (λ k. c.loop-slot.over.items ++ joined_if k s.number []) c.if-not-refused.true ∙ append-nil c.loop-slot.over.items)) c.next_due.ensures.rest c.loop-slot.invariant.way;
      room = omega (arith, c.next_due.ensures.no_more, c.loop-slot.invariant.room);
    }

pub loop-slot-preserved : goal.loop-slot-preserved
loop-slot-preserved g c =
    let n = c.prepared.inside.number in
    let t = c.prepared.inside.ended in
    let s = c.slot-item.result in
    let y = c.receive-refused.new.self in
    let b = c.receive-refused.result in
    let due = map option_to_list c.loop-slot.due.items in
    let stood = get_or c.loop-slot.slot-items c.loop-slot.slot-index s in
    let new = c.receive-refused.ensures.received ∙ ap (λ z. received n b z (unwatched (option_copied c.as_ref.result) stood)) c.next_due.ensures.first ∙ ap (λ z. received n b (first_of due) (unwatched z stood)) c.as_ref.ensures.value ∙ ap (λ z. received n b (first_of due) (unwatched t z)) (sym c.slot-item.is) in
    let same = same_numbers n t (first_of due) c.loop-slot.slot-items c.loop-slot.slot-index s y b c.slot-item.is new in
    let decided = c.receive-refused.ensures.decided in
    let fewer = c.next_due.ensures.fewer (is_expected b c.next_due.result stood.outbox decided c.if-not-refused.false) in
    let its = c.number.ensures ∙ ap (λ (v : Subscriber _). v.number) new ∙ number-received n b (first_of due) (unwatched t s) ∙ number-unwatched t s in
    record {
      same = same ∙ c.loop-slot.invariant.same;
      way = step n t c.args.prepared.items c.args.self.now c.loop-slot.over.items due c.loop-slot.slot-items c.loop-slot.slot-index s y b c.push_reserved.new.self.items (map option_to_list c.next_due.new.due.items)
          (within _ _ _ c.loop-slot.auto.slot-items c.loop-slot-test.true) c.slot-item.is new (subst (λ (z : Subscriber _). IsDecided b (first_of due) z.outbox) (sym c.slot-item.is) (subst (λ z. IsDecided b z stood.outbox) c.next_due.ensures.first decided))
          (c.push_reserved.ensures.items ∙ ap (λ k. c.loop-slot.over.items ++ k ∷ []) its ∙ ap (λ k. c.loop-slot.over.items ++ joined_if k s.number []) (sym c.if-not-refused.false)) c.next_due.ensures.rest c.loop-slot.invariant.way;
      room = omega (arith, fewer, c.push_reserved.ensures.len, c.push_reserved.ensures.capacity, c.loop-slot.invariant.room);
    }

pub returns : goal.returns
returns g c =
    let now = c.loop-slot.slot-items in
    let old = c.args.self.now in
    let expected = c.args.prepared in
    let over = c.loop-slot.over.items in
    let due = map option_to_list c.loop-slot.due.items in
    let i = c.loop-slot.slot-index in
    let way =
    subst (λ n. IsUnderWay n expected.ended expected.items old over due now i) (ap (λ (o : Owed). o.number) c.prepared.view_is)
    (subst (λ t. IsUnderWay c.prepared.inside.number t expected.items old over due now i) (ap (λ (o : Owed). o.ended) c.prepared.view_is) c.loop-slot.invariant.way) in
    let done = all_given expected old over due now i (past i _ _ c.loop-slot.auto.slot-items c.loop-slot-test.false) (subst (λ ss. Ascends (numbers ss)) c.self.view_is c.self.invariant) way in
    subst (λ z. Delivers expected old z over) (sym (written_back now (drop (length now) c.self.inside.sessions.items) c.self.inside.sessions.len (c.loop-slot.auto.slot-items ∙ c.deref_mut-slot-items.ensures.len))) done
