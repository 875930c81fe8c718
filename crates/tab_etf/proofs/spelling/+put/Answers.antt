use Rattle.std.proofs.Common.{arith, rules, ap, sym, ◌∙◌, ◌∷◌, ◌++◌, []}
use Rattle.std.specs.Int.{w16, to_be_bytes}
use Rattle.std.proofs.lemmas.List.{take_all}
use Rattle.tab_term.proofs.Lists.{weight_at, pair_weight_at}
use Rattle.tab_term.specs.Canon.{bytes_of, canon, canons, pair_canons, tuple_tag, arity_field, length_field}
use Rattle.tab_term.specs.Data.{atom, bin, count, pair_count}
use Rattle.tab_etf.proofs.WritingLemmas.{writes_as, writes_then, writes_none}
use Rattle.tab_etf.proofs.CanonLemmas.{list_none, list_bytes, list_others}
use Rattle.tab_etf.proofs.Elements.{canons_next, pairs_next, no_canons, no_pair_canons}
use Rattle.tab_term.specs.View.{terms, pairs}
use Rattle.tab_etf.proofs.spelling.+put.Goals as goal

pub put-returns-in-Atom : goal.put-returns-in-Atom
unfolding canon
put-returns-in-Atom g t c = rw c.in-Atom.is (writes_as c.put_atom.ensures (ap (λ s. canon (atom s)) c.as_str.ensures.text))

pub put-returns-in-Tuple : goal.put-returns-in-Tuple
unfolding canon
put-returns-in-Tuple g t c = rw c.in-Tuple.is c.put_tuple.ensures

pub put-returns-in-List : goal.put-returns-in-List
unfolding canon
put-returns-in-List g t c = rw c.in-List.is c.put_list.ensures

pub put-returns-in-Bin : goal.put-returns-in-Bin
unfolding canon
put-returns-in-Bin g t c = rw c.in-Bin.is (writes_as c.put_binary.ensures (ap (λ s. canon (bin s)) c.as_slice.ensures))

pub put-returns-in-Map : goal.put-returns-in-Map
unfolding canon
put-returns-in-Map g t c = rw c.in-Map.is c.put_map.ensures

pub put_tuple-returns : goal.put_tuple-returns
put_tuple-returns g t c =
    writes_as (writes_then c.put_tuple_head.ensures c.put_all.ensures)
    (ap (λ n. (tuple_tag n ∷ arity_field n) ++ canons (terms c.as_slice-items.result.now)) c.as_slice-items.ensures.len
    ∙ ap (λ us. (tuple_tag (count c.args.ts.now) ∷ arity_field (count c.args.ts.now)) ++ canons us) c.as_slice-items.ensures.items)

pub put_map-returns : goal.put_map-returns
put_map-returns g t c =
    writes_as (writes_then c.put_tagged.ensures c.put_pairs.ensures)
    (ap (λ n. (116 ∷ length_field n) ++ pair_canons (pairs c.as_slice-items.result.now)) c.as_slice-items.ensures.len
    ∙ ap (λ qs. (116 ∷ length_field (pair_count c.args.ps.now)) ++ pair_canons qs) c.as_slice-items.ensures.items)

pub put_all-loop-t-init : goal.put_all-loop-t-init
put_all-loop-t-init g t c = writes_as (writes_none _) no_canons

pub put_all-loop-t-preserved : goal.put_all-loop-t-preserved
put_all-loop-t-preserved g t c =
    writes_as (writes_then c.loop-t.invariant c.put.ensures) (sym (canons_next c.args.ts.now c.loop-t.t-index c.t-item.result c.loop-t-test.true c.t-item.is))

pub put_list-returns-in-106 : goal.put_list-returns-in-106
put_list-returns-in-106 g t c = writes_as c.put.ensures (sym (list_none c.args.ts.now (sym c.list_tag.ensures ∙ c.in-106.is)))

pub put_list-returns-in-107 : goal.put_list-returns-in-107
put_list-returns-in-107 g t c =
    writes_as c.put_string.ensures
    (ap (λ n. 107 ∷ to_be_bytes w16 n ++ bytes_of (terms c.as_slice-items.result.now)) c.as_slice-items.ensures.len
    ∙ ap (λ us. 107 ∷ to_be_bytes w16 (count c.args.ts.now) ++ bytes_of us) c.as_slice-items.ensures.items
    ∙ sym (list_bytes c.args.ts.now (sym c.list_tag.ensures ∙ c.in-107.is)))

pub put_list-returns-in_default : goal.put_list-returns-in_default
put_list-returns-in_default g t c =
    writes_as (writes_then (writes_then c.put_tagged.ensures c.put_all.ensures) c.put-in_default.ensures)
    (ap (λ n. (108 ∷ length_field n) ++ canons (terms c.as_slice-items.result.now) ++ 106 ∷ []) c.as_slice-items.ensures.len
    ∙ ap (λ us. (108 ∷ length_field (count c.args.ts.now)) ++ canons us ++ 106 ∷ []) c.as_slice-items.ensures.items
    ∙ sym (list_others c.args.ts.now (search rules) (search rules)))

pub put_pairs-loop-p-init : goal.put_pairs-loop-p-init
put_pairs-loop-p-init g t c = writes_as (writes_none _) no_pair_canons

pub put_pairs-loop-p-preserved : goal.put_pairs-loop-p-preserved
put_pairs-loop-p-preserved g t c =
    writes_as (writes_then (writes_then c.loop-p.invariant c.put.ensures) c.put-in-loop-p.ensures)
    (sym (pairs_next c.args.ps.now c.loop-p.p-index c.p-item.result c.loop-p-test.true c.p-item.is))

pub put_all-put-requires : goal.put_all-put-requires
put_all-put-requires g t c κs within = (omega (arith, c.decreases, weight_at c.args.ts.now c.loop-t.t-index c.t-item.result c.loop-t-test.true c.t-item.is), within)

pub put_all-returns : goal.put_all-returns
put_all-returns g t c = writes_as c.loop-t.invariant (ap (λ us. canons (terms us)) (take_all c.loop-t.t-index c.args.ts.now c.loop-t-test.false))

pub put_pairs-put-requires : goal.put_pairs-put-requires
put_pairs-put-requires g t c κs within = (omega (arith, c.decreases, pair_weight_at c.args.ps.now c.loop-p.p-index c.p-item.result c.loop-p-test.true c.p-item.is), within)

pub put_pairs-put-requires-in-loop-p : goal.put_pairs-put-requires-in-loop-p
put_pairs-put-requires-in-loop-p g t c κs within = (omega (arith, c.decreases, pair_weight_at c.args.ps.now c.loop-p.p-index c.p-item.result c.loop-p-test.true c.p-item.is), within)

pub put_pairs-returns : goal.put_pairs-returns
put_pairs-returns g t c = writes_as c.loop-p.invariant (ap (λ qs. pair_canons (pairs qs)) (take_all c.loop-p.p-index c.args.ps.now c.loop-p-test.false))
