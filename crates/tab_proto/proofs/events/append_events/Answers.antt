use Rattle.std.proofs.Common.{rules, ◌+◌, refl, ap, sym, drop, ◌∙◌}
use Rattle.tab_term.specs.Data.{one_more}
use Rattle.tab_lists.specs.EventTerms.{event_term, event_terms}
use Rattle.tab_etf.specs.Outlines.{outline_term}
use Rattle.tab_proto.proofs.EventsLemmas.{events_first, sending_event, unadded_event}
use Rattle.tab_proto.proofs.events.append_events.Goals as goal

pub loop-event-preserved : goal.loop-event-preserved
loop-event-preserved c =
    let items = c.as_slice-event-items.result.now in
    let i = c.loop-event.event-index in
    let rest = event_terms (drop (i + 1) items) in
    let told = c.event_outline.ensures.is ∙ ap event_term c.event.ensures in
    let step = events_first items i c.event-item.result c.loop-event-test.true c.event-item.is ∙ ap (λ t. one_more t rest) (sym told) in
    sending_event _ (outline_term c.event_outline.result) (event_terms (drop i items)) rest _ _ _ _ _ _ step c.loop-event.invariant c.in_ok-append_outline.ensures.ok refl

pub returns-in_err-append_outline-clause-err : goal.returns-in_err-append_outline-clause-err
returns-in_err-append_outline-clause-err c =
    let items = c.as_slice-event-items.result.now in
    let i = c.loop-event.event-index in
    let rest = event_terms (drop (i + 1) items) in
    let told = c.event_outline.ensures.is ∙ ap event_term c.event.ensures in
    let step = events_first items i c.event-item.result c.loop-event-test.true c.event-item.is ∙ ap (λ t. one_more t rest) (sym told) in
    let stands = c.in_err-append_outline.ensures in
    unadded_event _ _ c.in_err-append_outline.field-0.0 _ (outline_term c.event_outline.result) (event_terms (drop i items)) rest _ _ _ (search rules) refl step c.loop-event.invariant stands.too_long stands.err
