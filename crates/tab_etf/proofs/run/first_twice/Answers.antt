use Rattle.std.proofs.Common.{◌∙◌, ◌+◌, ◌<◌, true≢false, sym, arith}
use Rattle.std.proofs.lemmas.List.{get_or_default}
use Rattle.tab_etf.specs.Keyed.{IsFirstTwice}
use Rattle.tab_etf.proofs.KeyedLemmas.{no_key, twice_at, not_twice_at, twice_less, twice_more, twice_end}
use Rattle.tab_etf.proofs.run.first_twice.Goals as goal
use Rattle.tab_etf.proofs.run.first_twice.Goals.{then-are_alike, else-are_alike}

pub loop-i-preserved : goal.loop-i-preserved
loop-i-preserved c =
    let s = c.args.spelled.now in
    let ks = c.args.keys.now in
    let i = c.loop-i.i in
    let some : 0 < i = omega arith in
    let inside = c.loop-i-test.true in
    let old = c.loop-i.invariant.1 in (
      omega arith,
      elim c.if-are_alike.branch as (λ _. IsFirstTwice s ks (i + 1) c.if-are_alike.found) [
        | then-are_alike w ↦
            let t = twice_at s ks i some no_key inside (c.are_alike.ensures.0 w.if-are_alike.true) in
            rw (w.found-is, w.earlier_of.ensures) (twice_more s ks i some _ t (λ d. get_or_default ks i d no_key inside) c.loop-i.found old)
        | else-are_alike w ↦
            let n = not_twice_at s ks i some no_key (λ e. absurd (let f = c.are_alike.ensures.1 e in let g = w.if-are_alike.false in true≢false (sym f ∙ g))) in
            rw w.found-is (twice_less s ks i some c.loop-i.found n old)
      ],
    )

pub returns : goal.returns
returns c = twice_end c.args.spelled.now c.args.keys.now c.loop-i.i c.loop-i.found (omega arith, omega (arith, c.loop-i.invariant.0), c.loop-i.auto.i-end) c.loop-i.invariant.1
