use Rattle.std.proofs.Common.{◌≡◌, ◌∙◌, sym, arith, rules, Err}
use Rattle.std.specs.Prelude.{Result}
use Rattle.tab_etf.specs.declared.encoding.EncodeFault.{EncodeFault}
use Rattle.tab_etf.specs.declared.encoding.EncodeFault.TheVariants.{TooLong, NoMemory}
use Rattle.tab_etf.specs.Briefs.{token_term, brief_term}
use Rattle.tab_etf.proofs.BriefsLemmas.{adds_then, framed}
use Rattle.tab_etf.proofs.OutlinesLemmas.{pair_length}
use Rattle.tab_etf.proofs.brief.append_brief.Goals as goal

no_memory : {r : Result (Unit {0}) EncodeFault} → r ≡ Err TooLong → r ≡ Err NoMemory → ⊥
no_memory e f = absurd (cc (sym e ∙ f))

pub returns-in_err-reserve-clause-too_long : goal.returns-in_err-reserve-clause-too_long
returns-in_err-reserve-clause-too_long c =
    let whole = pair_length (token_term c.args.first.now) (brief_term c.args.brief.now) in
    (λ e. absurd (no_memory e (search rules)), λ h. absurd (omega (arith, h, whole, c.token_len.ensures.len, c.token_len.ensures.small, c.brief_len.ensures.len, c.brief_len.ensures.small)))

pub returns-clause-ok : goal.returns-clause-ok
returns-clause-ok c =
    let whole = pair_length (token_term c.args.first.now) (brief_term c.args.brief.now) in
    let all = adds_then (adds_then (adds_then c.add_all.ensures c.add_two.ensures) c.add_token.ensures) c.add_brief.ensures in
    framed _ _ _ _ _ _ _ c.in_ok-reserve.ensures.items c.frame_head.ensures all.items (omega (arith, whole, c.token_len.ensures.len, c.brief_len.ensures.len))

pub returns-clause-too_long : goal.returns-clause-too_long
returns-clause-too_long c =
    let whole = pair_length (token_term c.args.first.now) (brief_term c.args.brief.now) in
    (λ e. absurd (cc), λ h. absurd (omega (arith, h, whole, c.token_len.ensures.len, c.token_len.ensures.small, c.brief_len.ensures.len, c.brief_len.ensures.small)))
