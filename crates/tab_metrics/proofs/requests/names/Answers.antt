use Rattle.std.proofs.Common.{◌≡◌, ◌∙◌, ap, sym, ◌++◌, Some, None}
use Rattle.std.proofs.lemmas.Bool.Decides.{Decides-eqb}
use Rattle.std.proofs.lemmas.List.{append_cancel_left}
use Rattle.std.proofs.lemmas.Slice.Eq.{strip_prefix_is}
use Rattle.tab_metrics.specs.Heads.{is_query}
use Rattle.tab_metrics.proofs.requests.names.Goals as goal

pub returns-in-Some : goal.returns-in-Some
returns-in-Some c =
    let target = c.args.target.now in
    let path = c.args.path.now in
    let rest = c.in-Some.rest.now in
    let is : target ≡ path ++ rest = strip_prefix_is Decides-eqb target path (Some c.in-Some.rest) c.in-Some.ensures.cases in (
      λ t. (rest, is, sym c.is_query.ensures ∙ t),
      λ (other, e, query). c.is_query.ensures ∙ ap is_query (append_cancel_left path rest other (sym is ∙ e)) ∙ query,
    )

pub returns-in-None : goal.returns-in-None
returns-in-None c = (
  λ f. cc,
  λ (rest, e, query). absurd (strip_prefix_is Decides-eqb c.args.target.now c.args.path.now None c.in-None.ensures.cases rest e),
)
