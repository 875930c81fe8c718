use Rattle.std.proofs.Common.{refl, sym, ◌∙◌, set, not, rules}
use Rattle.std.specs.Prelude.{◌==◌}
use Rattle.std.proofs.lemmas.Fn.{filter_same}
use Rattle.tab_core.specs.declared.queue.Request as request
use Rattle.tab_core.specs.Parts.{parts_of}
use Rattle.tab_core.specs.Works.{Undoes}
use Rattle.tab_core.proofs.Keeping as keep
use Rattle.tab_core.proofs.Keeping.{the_session, parts, with_transaction}
use Rattle.tab_core.proofs.LevelEnds as ending
use Rattle.tab_core.proofs.machine.Machine.abort.Goals as goal

pub returns-then-is_none-clause-ok : goal.returns-then-is_none-clause-ok
returns-then-is_none-clause-ok g c =
    let m = parts_of c.args.self.now in
    let n = c.args.session in
    let i = c.args.place in
    ending.nothing_to_abort m n i c.requires.kept c.requires.there c.args.reason (sym c.transaction.ensures ∙ keep.none_of _ c.if-is_none.ensures)

pub returns : goal.returns
returns g c =
    let m = parts_of c.args.self.now in
    let n = c.args.session in
    let i = c.args.place in
    let o = keep.some_of _ (c.if-is_none.ensures) in
    let open_t = sym c.transaction.ensures ∙ o.1 in
    let u = keep.if_some (λ t. Undoes t m.ages c.undo.new.slot c.undo.new.ages) _ o.0 (c.transaction_mut.ensures.value ∙ open_t) c.undo.ensures in
    let m' = parts m (set m.sessions i (with_transaction (the_session m n i) c.undo.new.slot)) c.undo.new.ages c.retain.new.self in
    let all = ending.abort_exit m n i c.requires.kept c.requires.there o.0 open_t c.args.reason c.undo.new.slot c.undo.new.ages m' u
    (record { catalog = refl; sessions = refl; queue = filter_same _ (λ (x : request.Request). not (x.session == n)) _ (λ x b f t. search rules) _ _ c.retain.ensures.filtered; limits = refl; begun = refl; commits = refl; greatest = refl }) refl in
    record { ok = all.0; kept = all.1 }
