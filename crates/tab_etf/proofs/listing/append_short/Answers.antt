use Rattle.std.proofs.Common.{◌≡◌, ◌∙◌, ◌++◌, sym, ap, arith, rules, List, ℕ, ◌<◌, ◌*◌, ◌^◌}
use Rattle.tab_term.specs.Canon.{list_tag}
use Rattle.tab_term.specs.Data.{count}
use Rattle.tab_etf.specs.Measures.{IsMeasure}
use Rattle.tab_etf.proofs.CanonLemmas.{list_of_bytes, list_short, list_string}
use Rattle.tab_etf.proofs.ListingLemmas.{bytes_length, canon_none}
use Rattle.tab_etf.proofs.listing.append_short.Goals as goal

pub append-requires : goal.append-requires
append-requires c =
    let ts = c.args.ts.now in
    let tag : list_tag ts ≡ 107 = list_string ts (search rules) (search rules) in
    let short = list_short ts tag in
    let len = bytes_length ts (list_of_bytes ts tag) in
    let measure : IsMeasure (record { tag = 107; count = c.args.found.count; len = 2 * c.args.found.count }) ts = record { tag = sym tag; count = omega (arith, c.requires.found.count, short); len = omega (arith, len, short, c.requires.found.count) } in
    let fits : count ts < 2 ^ 64 = omega (arith, short) in
    rw c.alone.ensures (tt, tt, (measure, fits))

pub returns-then-found-eq-NIL_EXT-clause-ok : goal.returns-then-found-eq-NIL_EXT-clause-ok
returns-then-found-eq-NIL_EXT-clause-ok c =
    c.in_ok-push.ensures.items ∙ ap (λ (r : List ℕ). c.args.out.now.items ++ r) (sym (canon_none c.args.ts.now (sym c.requires.found.tag ∙ c.if-found-eq-NIL_EXT.true)))
