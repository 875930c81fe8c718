use Rattle.std.proofs.Common.{sym, arith}
use Rattle.std.proofs.lemmas.Bool.{eqb-true}
use Rattle.tab_index.specs.Indexed.{IsBare}
use Rattle.tab_index.proofs.FurtherRows.{bare_after}
use Rattle.tab_index.proofs.table.IndexedTable.change_all.Goals as goal

-- there is no index to keep
pub invariant_of-self-then-is_empty : goal.invariant_of-self-then-is_empty
invariant_of-self-then-is_empty g c =
    let kept = c.self.invariant in
    let bare : IsBare c.self.inside.def.value c.self.inside.rows = record { kind = kept.kind; ordered = kept.ordered; apart = kept.apart } in
    let after = bare_after c.self.inside.def.value c.self.inside.rows _ c.args.updates.now bare c.in_ok-update_all.ensures.ok in
    let none = eqb-true _ 0 (sym c.if-is_empty.ensures) in
    record {
      kind = after.kind;
      ordered = after.ordered;
      apart = after.apart;
      positions_are = kept.positions_are;
      indexes_are = λ k d h. absurd (omega (arith, none, h));
      leads = tt;
    }
