use Rattle.std.proofs.Common.{sym, ap, ◌∙◌, ◌∷◌, List, ℕ}
use Rattle.tab_etf.proofs.WritingLemmas.{writes_as, writes_then}
use Rattle.tab_etf.proofs.CanonLemmas.{atom_short, atom_long}
use Rattle.tab_etf.proofs.spelling.put_atom_head.Goals as goal

pub returns-then-n-lt256 : goal.returns-then-n-lt256
returns-then-n-lt256 g c = writes_as c.put_two.ensures (sym (atom_short c.args.n c.if-n-lt256.true))

pub returns-else-n-lt256 : goal.returns-else-n-lt256
returns-else-n-lt256 g c =
    writes_as (writes_then c.put.ensures c.put-else-n-lt256.ensures)
    (ap (λ (s : List ℕ). 118 ∷ s) c.to_be_bytes.ensures ∙ sym (atom_long c.args.n c.if-n-lt256.false c.requires))
