use Rattle.std.proofs.Common.{subst, sym}
use Rattle.tab_model.specs.History.{Base, IsHistory}
use Rattle.tab_model.specs.Catalogs.{Catalog}
use Rattle.tab_model.proofs.StandingLemmas.{history_of}
use Rattle.tab_book.proofs.Keeping.{audits}
use Rattle.tab_book.proofs.book.Book.audit.Goals as goal

pub returns : goal.returns
returns g c =
    let j = c.self.inside.journal in
    let k = c.self.invariant.0 in
    audits c.audit.result _
    (subst (λ (b : Base). IsHistory b j.entries c.tables.result.now) (sym c.base.ensures)
    (subst (λ (w : Catalog). IsHistory j.base j.entries w) (sym c.tables.ensures) (history_of k.past j.base j.entries c.self.inside.core k.stands)))
    c.audit.ensures
