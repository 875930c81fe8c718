use Rattle.std.proofs.Common.{◌+◌, ◌∷◌, length, ap, arith}
use Rattle.tab_term.specs.Canon.{atom_tag, atom_length_field, length_field}
use Rattle.tab_term.specs.View.{terms, pairs}
use Rattle.tab_term.proofs.Lists.{weight_at, pair_weight_at}
use Rattle.tab_etf.proofs.Lengths.{atom_length, tuple_length, bin_length, map_length}
use Rattle.tab_etf.proofs.measuring.+len.Goals as goal

pub spelled_len-returns-in-Atom : goal.spelled_len-returns-in-Atom
spelled_len-returns-in-Atom t c =
    rw c.in-Atom.is (omega (arith, atom_length c.in-Atom.a, ap (λ s. length (atom_tag (length s) ∷ atom_length_field (length s)) + length s) c.as_str.ensures.text, c.atom_len.ensures, c.atom_len.type_inv))

pub spelled_len-returns-in-Tuple : goal.spelled_len-returns-in-Tuple
spelled_len-returns-in-Tuple t c =
    let items = c.as_slice-items.result.now in
    rw c.in-Tuple.is (omega (arith, tuple_length c.in-Tuple.ts (terms items) (length items) c.as_slice-items.ensures.items c.as_slice-items.ensures.len))

pub spelled_len-returns-in-Bin : goal.spelled_len-returns-in-Bin
spelled_len-returns-in-Bin t c =
    rw c.in-Bin.is (omega (arith, bin_length c.in-Bin.b, ap (λ s. length (length_field (length s)) + length s) c.as_slice-n.ensures, ap length c.as_slice-n.ensures))

pub spelled_len-returns-in-Map : goal.spelled_len-returns-in-Map
spelled_len-returns-in-Map t c =
    let items = c.as_slice-items-in-Map.result.now in
    rw c.in-Map.is (omega (arith, map_length c.in-Map.ps (pairs items) (length items) c.as_slice-items-in-Map.ensures.items c.as_slice-items-in-Map.ensures.len))

pub all_len-spelled_len-requires : goal.all_len-spelled_len-requires
all_len-spelled_len-requires t c = omega (arith, c.decreases, weight_at c.args.ts.now c.loop-t.t-index c.t-item.result c.loop-t-test.true c.t-item.is)

pub pairs_len-spelled_len-requires : goal.pairs_len-spelled_len-requires
pairs_len-spelled_len-requires t c = omega (arith, c.decreases, pair_weight_at c.args.ps.now c.loop-p.p-index c.p-item.result c.loop-p-test.true c.p-item.is)

pub pairs_len-spelled_len-requires-in-loop-p : goal.pairs_len-spelled_len-requires-in-loop-p
pairs_len-spelled_len-requires-in-loop-p t c = omega (arith, c.decreases, pair_weight_at c.args.ps.now c.loop-p.p-index c.p-item.result c.loop-p-test.true c.p-item.is)
