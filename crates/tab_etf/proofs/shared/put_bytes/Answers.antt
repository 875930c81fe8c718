use Rattle.std.proofs.Common.{ap, sym, ◌∙◌, ◌∷◌}
use Rattle.tab_term.specs.Canon.{all_bytes, bytes_of}
use Rattle.tab_term.specs.Data.{plain_terms}
use Rattle.tab_term.specs.View.{term}
use Rattle.tab_etf.proofs.SharedElements.{but_all, but_less, but_none, all_bytes_first}
use Rattle.tab_etf.proofs.shared.put_bytes.Goals as goal

pub loop-t-init : goal.loop-t-init
loop-t-init g c =
    let whole = ap plain_terms c.into_iter-t-iterator.ensures.into_iter_gives ∙ c.iter-t-items.ensures in
    (but_all _ (ap bytes_of whole), ap all_bytes whole ∙ c.requires)

pub loop-t-preserved : goal.loop-t-preserved
loop-t-preserved g c =
    let here = all_bytes_first c.loop-t.t-iterator c.next.new.self (term c.in-Some.t.now) c.in-Some.ensures.steps c.loop-t.invariant.1 in (
      but_less c.loop-t.invariant.0 c.put_byte.ensures (ap (λ ts. bytes_of (plain_terms ts)) c.in-Some.ensures.steps ∙ ap (λ b. b ∷ bytes_of (plain_terms c.next.new.self)) (sym c.byte_in.ensures)),
      here.1,
    )

pub returns : goal.returns
returns g c = but_none c.loop-t.invariant.0 (ap (λ ts. bytes_of (plain_terms ts)) c.in-None.ensures.steps.0)
