use Rattle.std.proofs.Common.{rules, arith}
use Rattle.tab_etf.proofs.SharedElements.{others_length}
use Rattle.tab_etf.proofs.shared.shared_len.Goals as goal

pub returns-in_default : goal.returns-in_default
returns-in_default c =
    let others = others_length c.args.ts.now c.args.measure.count c.requires.count (search rules) (search rules) in
    omega (arith, others, c.requires.len, c.field_len.ensures.value, c.saturating_add.ensures)
