use Rattle.std.proofs.Common.{◌∙◌, arith, sym, length-drop}
use Rattle.tab_etf.proofs.Cuts.{front_part, front_short, front-whole}
use Rattle.tab_etf.proofs.splitting.front_of.Goals as goal

pub returns-in_default : goal.returns-in_default
returns-in_default c = front_part c.args.bytes.now (λ x e. c.in_default.not-Some x (c.length_at.ensures.value ∙ e))

pub returns-then-bytes-count : goal.returns-then-bytes-count
returns-then-bytes-count c =
    front_short c.args.bytes.now c.in-Some.count (sym c.in-Some.ensures.value) (omega arith) (omega (arith, length-drop 4 c.args.bytes.now, c.if-bytes-count.true))

pub returns : goal.returns
returns c = (
  omega (arith, c.in-Some.ensures.long, c.if-bytes-count.false),
  λ more. front-whole c.args.bytes.now more c.in-Some.count (sym c.in-Some.ensures.value) (omega arith) (omega (arith, length-drop 4 c.args.bytes.now, c.if-bytes-count.false)),
)
