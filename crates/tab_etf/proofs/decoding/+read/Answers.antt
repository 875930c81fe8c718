use Rattle.std.proofs.lemmas.Result.{err_from_is_err_and}
use Rattle.std.proofs.Common.{ℕ, ◌+◌, ◌-◌, List, [], ◌∷◌, ◌++◌, length, Ok, Bor, refl, ap, ◌∙◌}
use Rattle.tab_term.specs.Data.{PlainPairs}
use Rattle.tab_term.specs.View.{term, terms}
use Rattle.tab_etf.specs.Reading.{times, pairs_from, term_at}
use Rattle.tab_etf.proofs.TimesLemmas.{goes_on, ends, is_done}
use Rattle.tab_etf.proofs.MapReads.{key_fails, value_fails, pair_goes_on, ended_as, pairs_next, pairs_end}
use Rattle.tab_etf.proofs.Noting.{noted_as, paired_more}
use Rattle.tab_etf.proofs.decoding.+read.Goals as goal

pub terms_of-returns-in_err-item : goal.terms_of-returns-in_err-item
terms_of-returns-in_err-item t c =
    let p = err_from_is_err_and c.from_residual-in_err-item.result c.from_residual-in_err-item.ensures.1 in
    rw (p.1, p.2) (ends (term_at c.args.levels) c.args.count c.loop.counter c.loop.rest.now (times (term_at c.args.levels) c.args.count c.args.bytes.now) c.in_err-item.field-0.0 (terms c.loop.items.items) c.loop-test.true c.in_err-item.ensures c.loop.invariant)

pub terms_of-loop-preserved : goal.terms_of-loop-preserved
terms_of-loop-preserved t c =
    rw c.in_ok-push.ensures (goes_on (term_at c.args.levels) c.args.count c.loop.counter c.loop.rest.now (times (term_at c.args.levels) c.args.count c.args.bytes.now) c.loop.items.items c.in_ok-item.item c.in_ok-item.after.now c.loop-test.true c.in_ok-item.ensures c.loop.invariant)

pub terms_of-returns : goal.terms_of-returns
terms_of-returns t c =
    rw c.from_vec.ensures (is_done (term_at c.args.levels) c.args.count c.loop.counter c.loop.rest.now (times (term_at c.args.levels) c.args.count c.args.bytes.now) (terms c.loop.items.items) c.loop-test.false c.loop.invariant)

pub pair_of-returns-in_err-key : goal.pair_of-returns-in_err-key
pair_of-returns-in_err-key t c = λ es go_on holds.
    let p = err_from_is_err_and c.from_residual.result c.from_residual.ensures.1 in
    rw (p.1, p.2) (key_fails (term_at c.args.levels) es c.args.bytes.now go_on (λ (x : Bor (List ℕ)). x.now) c.args.run.now c.in_err-key.field-0.0 holds.0 c.in_err-key.ensures)

pub pair_of-returns-in_err-value : goal.pair_of-returns-in_err-value
pair_of-returns-in_err-value t c = λ es go_on holds.
    let p = err_from_is_err_and c.from_residual-in_err-value.result c.from_residual-in_err-value.ensures.1 in
    let k = term c.in_ok-key.key in
    let noted = noted_as c.args.run.now.spelled.items c.args.run.now.keys.items es k k (length c.args.bytes.now) holds.0 c.note.new.self.spelled.items c.note.new.self.spelled.items c.note.new.self.keys.items c.in_ok-note.ensures.spelled refl c.in_ok-note.ensures.keys in
    rw (p.1, p.2) (value_fails (term_at c.args.levels) es c.args.bytes.now go_on (λ (x : Bor (List ℕ)). x.now) c.note.new.self c.in_err-value.field-0.0 k c.in_ok-key.rest.now noted c.in_ok-key.ensures c.in_err-value.ensures)

pub pair_of-returns : goal.pair_of-returns
pair_of-returns t c = λ es go_on holds.
    let k = term c.in_ok-key.key in
    let x = term c.in_ok-value.value in
    let noted = noted_as c.args.run.now.spelled.items c.args.run.now.keys.items es k x (length c.args.bytes.now) holds.0 c.note.new.self.spelled.items c.push.new.self.spelled.items c.push.new.self.keys.items c.in_ok-note.ensures.spelled c.in_ok-push.ensures.spelled (c.in_ok-push.ensures.keys ∙ c.in_ok-note.ensures.keys) in
    let pairs = c.in_ok-push.ensures.pairs ∙ ap (λ ps. ps ++ (c.in_ok-key.key, c.in_ok-value.value) ∷ []) c.in_ok-note.ensures.pairs in
    let paired = paired_more c.args.run.now.pairs.items es c.in_ok-key.key c.in_ok-value.value (length c.args.bytes.now) holds.1 in (
      es ++ (k, x, length c.args.bytes.now) ∷ [],
      (noted, rw pairs paired),
      pair_goes_on (term_at c.args.levels) es c.args.bytes.now go_on k x c.in_ok-key.rest.now c.in_ok-value.rest.now c.in_ok-key.ensures c.in_ok-value.ensures,
    )

pub run_of-returns-in_err-rest : goal.run_of-returns-in_err-rest
run_of-returns-in_err-rest t c =
    let p = err_from_is_err_and c.from_residual.result c.from_residual.ensures.1 in
    let old = c.loop.invariant in
    let go_on = λ (x : PlainPairs × List ℕ). pairs_from (term_at c.args.levels) (c.args.count - (c.loop.counter + 1)) x.0 x.1 in
    let so_far = old.2 ∙ pairs_next (term_at c.args.levels) c.args.count c.loop.counter old.0 c.loop.rest.now c.loop-test.true in
    rw (p.1, p.2) (ended_as (λ (x : Bor (List ℕ)). x.now) go_on (λ x. Ok x) c.pair_of.new.run c.in_err-rest.field-0.0 _ _ so_far (c.in_err-rest.ensures old.0 go_on old.1))

pub run_of-loop-preserved : goal.run_of-loop-preserved
run_of-loop-preserved t c =
    let old = c.loop.invariant in
    let go_on = λ (x : PlainPairs × List ℕ). pairs_from (term_at c.args.levels) (c.args.count - (c.loop.counter + 1)) x.0 x.1 in
    let so_far = old.2 ∙ pairs_next (term_at c.args.levels) c.args.count c.loop.counter old.0 c.loop.rest.now c.loop-test.true in
    let next = c.in_ok-rest.ensures old.0 go_on old.1 in
    (next.0, next.1, so_far ∙ next.2)

pub run_of-returns : goal.run_of-returns
run_of-returns t c =
    let old = c.loop.invariant in
    (old.0, old.1, old.2 ∙ pairs_end (term_at c.args.levels) c.args.count c.loop.counter old.0 c.loop.rest.now c.loop-test.false)
