use Rattle.std.proofs.Common.{◌≡◌, ℕ, ◌<◌, ◌≤◌, sym, ap, ◌∙◌, subst, arith}
use Rattle.std.proofs.Math.Seq.{map-set_same}
use Rattle.tab_model.specs.Tables.{apply}
use Rattle.tab_index.specs.declared.index.Index.{Index}
use Rattle.tab_index.specs.Indexed.{positions, AreIndexesOf}
use Rattle.tab_index.proofs.IndexedLemmas.{one_done, others_left, all_done}
use Rattle.tab_index.proofs.table.change_indexes.Goals as goal

within : (i n m : ℕ) → n ≡ m → i < m → i < n
within i n m e h = omega (arith, e, h)

pub loop-index-init : goal.loop-index-init
loop-index-init c =
    let all = subst (AreIndexesOf c.args.rows.now.1) (sym c.deref_mut-index-items.ensures.value) c.requires.indexes in
    record {
      positions_are = ap positions c.deref_mut-index-items.ensures.value;
      done = λ k d h. absurd (omega (arith, h));
      left = λ k d l h. all k d h;
    }

pub update-requires-clause-index : goal.update-requires-clause-index
update-requires-clause-index c =
    (c.loop-index.invariant.left c.loop-index.index-index c.index-item.result (omega arith) (within _ _ _ c.loop-index.auto.index-items c.loop-index-test.true)).index

pub update-requires-clause-further : goal.update-requires-clause-further
update-requires-clause-further c =
    (c.loop-index.invariant.left c.loop-index.index-index c.index-item.result (omega arith) (within _ _ _ c.loop-index.auto.index-items c.loop-index-test.true)).further

pub loop-index-preserved : goal.loop-index-preserved
loop-index-preserved c =
    let xs = c.loop-index.index-items in
    let i = c.loop-index.index-index in
    let y = c.update.new.self in
    record {
      positions_are = map-set_same (λ (j : Index). j.position) xs i y c.index-item.result c.update.ensures.position ∙ c.loop-index.invariant.positions_are;
      done = one_done (apply c.args.rows.now.0 c.args.rows.now.1 c.args.update.now) xs i y (within _ _ _ c.loop-index.auto.index-items c.loop-index-test.true) c.loop-index.invariant.done (record { index = c.in_ok-update.ensures.ok; further = c.in_ok-update.ensures.further });
      left = others_left c.args.rows.now.1 xs i y c.loop-index.invariant.left;
    }

pub returns-clause-indexes : goal.returns-clause-indexes
returns-clause-indexes c =
    all_done (apply c.args.rows.now.0 c.args.rows.now.1 c.args.update.now) c.loop-index.index-items _ c.args.indexes.now.len c.loop-index.index-index
    (sym (c.loop-index.auto.index-items ∙ c.deref_mut-index-items.ensures.len)) (subst (λ n. n ≤ c.loop-index.index-index) (sym c.loop-index.auto.index-items) c.loop-index-test.false) c.loop-index.invariant.done
