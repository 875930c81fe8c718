use Rattle.std.proofs.Common.{◌≡◌, ◌∙◌, ap, ap₂, codes}
use Rattle.std.specs.Prelude.{◌||◌}
use Rattle.std.proofs.lemmas.Result.{IfOk-weaker}
use Rattle.clap.specs.Simple.{app_of_fields}
use Rattle.clap.specs.Words.{app_of, new_app, with_rule}
use Rattle.tab_words.proofs.command_line.serve.Goals as goal

pub returns-clause-line : goal.returns-clause-line
returns-clause-line c =
    let bare : app_of c.override_usage.result ≡ new_app (codes "serve") = ap app_of_fields c.override_usage.ensures ∙ ap app_of_fields c.about.ensures ∙ c.new.ensures.app in
    let sixteen = c.in_ok-arg-16.ensures.shape c.idle_sessions.ensures.own
    ∙ ap₂ with_rule (c.in_ok-arg-15.ensures.shape c.transaction_limit.ensures.own
    ∙ ap₂ with_rule (c.in_ok-arg-14.ensures.shape c.drain.ensures.own
    ∙ ap₂ with_rule (c.in_ok-arg-13.ensures.shape c.abort_waits.ensures.own
    ∙ ap₂ with_rule (c.in_ok-arg-12.ensures.shape c.slow.ensures.own
    ∙ ap₂ with_rule (c.in_ok-arg-11.ensures.shape c.metrics.ensures.own
    ∙ ap₂ with_rule (c.in_ok-arg-10.ensures.shape c.log.ensures.own
    ∙ ap₂ with_rule (c.in_ok-arg-9.ensures.shape c.idle.ensures.own
    ∙ ap₂ with_rule (c.in_ok-arg-8.ensures.shape c.batches.ensures.own
    ∙ ap₂ with_rule (c.in_ok-arg-7.ensures.shape c.forever.ensures.own
    ∙ ap₂ with_rule (c.in_ok-arg-6.ensures.shape c.journal_bytes.ensures.own
    ∙ ap₂ with_rule (c.in_ok-arg-5.ensures.shape c.journal.ensures.own
    ∙ ap₂ with_rule (c.in_ok-arg-4.ensures.shape c.outbox.ensures.own
    ∙ ap₂ with_rule (c.in_ok-arg-3.ensures.shape c.connections.ensures.own
    ∙ ap₂ with_rule (c.in_ok-arg-2.ensures.shape c.socket.ensures.own
    ∙ ap₂ with_rule (c.in_ok-arg.ensures.shape c.port.ensures.own
    ∙ ap₂ with_rule bare c.port.ensures.rule) c.socket.ensures.rule) c.connections.ensures.rule) c.outbox.ensures.rule) c.journal.ensures.rule) c.journal_bytes.ensures.rule) c.forever.ensures.rule) c.batches.ensures.rule) c.idle.ensures.rule) c.log.ensures.rule) c.metrics.ensures.rule) c.slow.ensures.rule) c.abort_waits.ensures.rule) c.drain.ensures.rule) c.transaction_limit.ensures.rule) c.idle_sessions.ensures.rule in
    IfOk-weaker c.arg-17.result _ _ (λ r h. h.shape c.outbox_bytes.ensures.own ∙ ap₂ with_rule sixteen c.outbox_bytes.ensures.rule) c.arg-17.ensures

pub returns-clause-own : goal.returns-clause-own
returns-clause-own c = IfOk-weaker c.arg-17.result _ _ (λ r h. h.globals ∙ ap₂ (λ a b. a || b) (c.in_ok-arg-16.ensures.globals
    ∙ ap₂ (λ a b. a || b) (c.in_ok-arg-15.ensures.globals
    ∙ ap₂ (λ a b. a || b) (c.in_ok-arg-14.ensures.globals
    ∙ ap₂ (λ a b. a || b) (c.in_ok-arg-13.ensures.globals
    ∙ ap₂ (λ a b. a || b) (c.in_ok-arg-12.ensures.globals
    ∙ ap₂ (λ a b. a || b) (c.in_ok-arg-11.ensures.globals
    ∙ ap₂ (λ a b. a || b) (c.in_ok-arg-10.ensures.globals
    ∙ ap₂ (λ a b. a || b) (c.in_ok-arg-9.ensures.globals
    ∙ ap₂ (λ a b. a || b) (c.in_ok-arg-8.ensures.globals
    ∙ ap₂ (λ a b. a || b) (c.in_ok-arg-7.ensures.globals
    ∙ ap₂ (λ a b. a || b) (c.in_ok-arg-6.ensures.globals
    ∙ ap₂ (λ a b. a || b) (c.in_ok-arg-5.ensures.globals
    ∙ ap₂ (λ a b. a || b) (c.in_ok-arg-4.ensures.globals
    ∙ ap₂ (λ a b. a || b) (c.in_ok-arg-3.ensures.globals
    ∙ ap₂ (λ a b. a || b) (c.in_ok-arg-2.ensures.globals
    ∙ ap₂ (λ a b. a || b) (c.in_ok-arg.ensures.globals
    ∙ ap₂ (λ a b. a || b) (ap (λ f. f.has_globals) c.override_usage.ensures ∙ ap (λ f. f.has_globals) c.about.ensures ∙ c.new.ensures.local) c.port.ensures.own) c.socket.ensures.own) c.connections.ensures.own) c.outbox.ensures.own) c.journal.ensures.own) c.journal_bytes.ensures.own) c.forever.ensures.own) c.batches.ensures.own) c.idle.ensures.own) c.log.ensures.own) c.metrics.ensures.own) c.slow.ensures.own) c.abort_waits.ensures.own) c.drain.ensures.own) c.transaction_limit.ensures.own) c.idle_sessions.ensures.own) c.outbox_bytes.ensures.own) c.arg-17.ensures
