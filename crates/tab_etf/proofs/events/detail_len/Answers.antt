use Rattle.std.proofs.Common.{arith, ap, length}
use Rattle.tab_term.specs.Canon.{canon}
use Rattle.tab_term.specs.Data.{atom}
use Rattle.tab_etf.proofs.Lengths.{atom_length}
use Rattle.tab_etf.proofs.events.detail_len.Goals as goal

pub returns : goal.returns
returns c =
    omega (
      arith,
      c.shared_len.ensures,
      c.atom_len.ensures,
      atom_length c.as_str.result.now,
      ap (λ s. length (canon (atom s))) c.as_str.ensures.text,
      c.saturating_add.ensures,
    )
