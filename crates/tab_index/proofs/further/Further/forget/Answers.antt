use Rattle.std.proofs.Common.{◌≡◌, sym, ◌∙◌, subst, false, Option, Some, None, refl}
use Rattle.std.specs.Prelude.{is_some}
use Rattle.std.proofs.lemmas.Bool.{false≢true}
use Rattle.std.proofs.lemmas.Result.{on_ok_weaker}
use Rattle.tab_term.specs.Order.{term_cmp}
use Rattle.tab_term.specs.View.{term}
use Rattle.tab_map.specs.Entries.{lookup}
use Rattle.tab_index.specs.FurtherOf.{IsForgotten}
use Rattle.tab_index.proofs.FurtherLemmas.{forgotten, none_forgotten}
use Rattle.tab_index.proofs.further.Further.forget.Goals as goal

is_none : {X : Type 0} (o : Option X) → is_some o ≡ false → o ≡ None
is_none None h = refl
is_none (Some x) h = absurd (false≢true (sym h))

pub returns-then-contains_key : goal.returns-then-contains_key
returns-then-contains_key c =
    let ms = c.args.self.now.by_key in
    let k = c.args.key.now in
    on_ok_weaker c.remove.result (λ h. subst (λ ns. IsForgotten ms ns (term k)) (sym h) (forgotten ms k c.contains_key.ensures.ascends)) c.remove.ensures.ok

pub returns : goal.returns
returns c =
    let ms = c.args.self.now.by_key in
    let k = c.args.key.now in
    none_forgotten ms k (is_none (lookup term_cmp k ms) (sym c.contains_key.ensures.found ∙ c.if-contains_key.false))
