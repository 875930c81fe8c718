use Rattle.std.proofs.Common.{arith}
use Rattle.tab_etf.proofs.OutlinesLemmas.{outline_length, outline_fits}
use Rattle.tab_etf.proofs.outline.outline_len.Goals as goal

pub returns-then-len-le-LONGEST-clause-fits : goal.returns-then-len-le-LONGEST-clause-fits
returns-then-len-le-LONGEST-clause-fits c =
    outline_fits c.args.outline.now c.requires
    (omega (arith, outline_length c.args.outline.now, c.head_len.ensures, c.head_len-2.ensures, c.body_len.ensures, c.saturating_add.ensures, c.saturating_add-2.ensures, c.saturating_add-len.ensures, c.if-len-le-LONGEST.true))
