use Rattle.std.proofs.Common.{sym, ◌∙◌, ap}
use Rattle.tab_post.proofs.Adding.{add_moves}
use Rattle.tab_post.proofs.prefix.Prefix.add.Goals as goal

pub compare_exchange-found-requires : goal.compare_exchange-found-requires
compare_exchange-found-requires g c =
    let head = c.args.register.now.head_is in
    let book = c.self.invariant.1 ∙ sym (ap (λ w. w.book) head) in
    let offer = c.plain-offer.ensures in
    let pen = c.no_pen-pen.ensures in (
      ap (λ w. w.tracked) head,
      book,
      pen.0 ∙ book,
      offer.0,
      rw (ap (λ w. w.key) head, pen.1, offer.1, offer.3) (add_moves c.self.inside.seen.log c.args.entry.now c.self.inside.len (sym c.self.invariant.0)),
    )
