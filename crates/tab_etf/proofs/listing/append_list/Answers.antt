use Rattle.std.proofs.Common.{◌∙◌, length, rules}
use Rattle.tab_etf.proofs.ListingLemmas.{counted, past_list}
use Rattle.tab_etf.proofs.listing.append_list.Goals as goal

pub returns-then-found-eq-LIST_EXT-clause-ok : goal.returns-then-found-eq-LIST_EXT-clause-ok
returns-then-found-eq-LIST_EXT-clause-ok c =
    c.put_number.ensures
    ∙ counted c.append_uncounted.new.out.items c.args.out.now.items c.args.ts.now c.in-Ok-Some.found.count c.len-at.result (search rules) (search rules) (search rules) (search rules) (search rules)

pub returns-in-Ok-None-clause-over : goal.returns-in-Ok-None-clause-over
returns-in-Ok-None-clause-over c over = past_list c.args.ts.now c.args.most (length c.args.out.now.items) (rw c.in-Ok-None.field-0-is at c.in-Ok-None.ensures.over)
