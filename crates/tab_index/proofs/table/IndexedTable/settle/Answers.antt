use Rattle.std.proofs.Common.{sym, ap, ◌∙◌, subst}
use Rattle.std.specs.Prelude.{IfSome}
use Rattle.std.proofs.lemmas.List.{nil_from_length}
use Rattle.tab_index.specs.Indexed.{positions, indexed_rows, AreIndexesOf, LeadsTo}
use Rattle.tab_index.proofs.BacklogLemmas.{none_pending}
use Rattle.tab_index.proofs.table.IndexedTable.settle.Goals as goal

pub settle-requires-clause-indexes : goal.settle-requires-clause-indexes
settle-requires-clause-indexes c =
    let now = c.self.inside in
    subst (AreIndexesOf c.in-Some.backlog.0.1) (sym c.deref.ensures.value) (subst (λ o. AreIndexesOf (indexed_rows now.rows.1 o) now.indexes.items) c.in-Some.is c.self.invariant.indexes_are)

pub settle-requires-clause-ordered : goal.settle-requires-clause-ordered
settle-requires-clause-ordered c =
    let leads = subst (λ o. IfSome o (LeadsTo c.self.inside.def.value c.self.inside.rows.1)) c.in-Some.is c.self.invariant.leads in
    leads.bare.ordered

pub settle-requires-clause-apart : goal.settle-requires-clause-apart
settle-requires-clause-apart c =
    let leads = subst (λ o. IfSome o (LeadsTo c.self.inside.def.value c.self.inside.rows.1)) c.in-Some.is c.self.invariant.leads in
    leads.bare.apart

pub invariant_of-self-then-len-eq0 : goal.invariant_of-self-then-len-eq0
invariant_of-self-then-len-eq0 c =
    let now = c.self.inside in
    let kept = c.self.invariant in
    let before = subst (λ o. IfSome o (LeadsTo now.def.value now.rows.1)) c.in-Some.is kept.leads in
    let leads = c.settle.ensures.leads now.def.value now.rows.1 before in
    let none = nil_from_length _ (sym c.len-2.ensures ∙ c.if-len-eq0.true) in
    record {
      kind = kept.kind;
      ordered = kept.ordered;
      apart = kept.apart;
      positions_are = c.in_ok-self-inside.ensures.positions ∙ ap positions c.deref.ensures.value ∙ kept.positions_are;
      indexes_are = subst (λ r. AreIndexesOf r c.in_ok-self-inside.field-0.items) (none_pending now.def.value now.rows.1 _ leads none) c.in_ok-self-inside.ensures.indexes;
      leads = tt;
    }

pub invariant_of-self-else-len-eq0 : goal.invariant_of-self-else-len-eq0
invariant_of-self-else-len-eq0 c =
    let now = c.self.inside in
    let kept = c.self.invariant in
    let before = subst (λ o. IfSome o (LeadsTo now.def.value now.rows.1)) c.in-Some.is kept.leads in
    record {
      kind = kept.kind;
      ordered = kept.ordered;
      apart = kept.apart;
      positions_are = c.in_ok-self-inside.ensures.positions ∙ ap positions c.deref.ensures.value ∙ kept.positions_are;
      indexes_are = c.in_ok-self-inside.ensures.indexes;
      leads = c.settle.ensures.leads now.def.value now.rows.1 before;
    }
