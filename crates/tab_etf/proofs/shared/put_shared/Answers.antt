use Rattle.std.proofs.Common.{rules, arith, ap, sym, ◌∙◌, ◌∷◌, ◌++◌, ◌≡◌, []}
use Rattle.std.specs.Int.{w16, to_be_bytes}
use Rattle.tab_term.specs.Canon.{bytes_of, canons, length_field}
use Rattle.tab_term.specs.Data.{count}
use Rattle.tab_etf.proofs.WritingLemmas.{writes_as, writes_then}
use Rattle.tab_etf.proofs.CanonLemmas.{list_none, list_bytes, list_short, list_others}
use Rattle.tab_etf.proofs.shared.put_shared.Goals as goal

pub returns-in-106 : goal.returns-in-106
returns-in-106 g c = writes_as c.put.ensures (sym (list_none c.args.ts.now (sym c.requires.measure.tag ∙ c.in-106.is)))

pub returns-in-107 : goal.returns-in-107
returns-in-107 g c =
    let tag = sym c.requires.measure.tag ∙ c.in-107.is in
    writes_as c.put_string.ensures
    (ap (λ n. 107 ∷ to_be_bytes w16 n ++ bytes_of c.args.ts.now) (omega (arith, c.requires.measure.count, list_short c.args.ts.now tag))
    ∙ sym (list_bytes c.args.ts.now tag))

pub returns-in_default : goal.returns-in_default
returns-in_default g c =
    let len : c.args.measure.count ≡ count c.args.ts.now = omega (arith, c.requires.measure.count, c.requires.fits) in
    writes_as (writes_then (writes_then c.put_tagged.ensures c.put_all.ensures) c.put-in_default.ensures)
    (ap (λ n. (108 ∷ length_field n) ++ canons c.args.ts.now ++ 106 ∷ []) len ∙ sym (list_others c.args.ts.now (search rules) (search rules)))
