use Rattle.std.proofs.Common.{ap, length, ◌∷◌, ◌++◌, List, ℕ}
use Rattle.tab_term.specs.Canon.{atom_tag, atom_length_field}
use Rattle.tab_etf.proofs.WritingLemmas.{writes_as, writes_then}
use Rattle.tab_etf.proofs.spelling.put_atom.Goals as goal

pub returns : goal.returns
returns g c =
    let n = length c.args.text.now in
    writes_as (writes_then c.put_atom_head.ensures c.put.ensures) (ap (λ (s : List ℕ). (atom_tag n ∷ atom_length_field n) ++ s) c.as_bytes.ensures.value)
