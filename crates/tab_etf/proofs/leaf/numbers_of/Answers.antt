use Rattle.std.proofs.Common.{Ok, get_or, sym, ap, ◌∙◌, arith}
use Rattle.std.specs.Int.{w128}
use Rattle.std.proofs.lemmas.Int.{to_z_pos}
use Rattle.std.proofs.lemmas.List.{take_all}
use Rattle.tab_term.specs.Data.{int}
use Rattle.tab_etf.specs.Spells.{numbers}
use Rattle.tab_etf.proofs.LeafLemmas.{numbers_more}
use Rattle.tab_etf.proofs.leaf.numbers_of.Goals as goal

pub loop-byte-preserved : goal.loop-byte-preserved
loop-byte-preserved c =
    let bs = c.args.bytes.now in
    let i = c.loop-byte.byte-index in
    rw c.in_ok-push.ensures.items (numbers_more _ _ bs i c.loop-byte-test.true c.loop-byte.invariant (ap int (to_z_pos w128 (get_or bs i 0) (omega (arith, c.type_inv.bytes i)))))

pub returns : goal.returns
returns c = ap Ok (sym (c.from_vec.ensures ∙ c.loop-byte.invariant ∙ ap numbers (take_all c.loop-byte.byte-index c.args.bytes.now c.loop-byte-test.false)))
