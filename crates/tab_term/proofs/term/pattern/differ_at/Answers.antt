use Rattle.std.proofs.Common.{sym, ap, ap₂, ◌∙◌}
use Rattle.tab_term.specs.Pattern.{all_match}
use Rattle.tab_term.specs.View.{terms}
use Rattle.tab_term.proofs.Lists.{unlike_at}
use Rattle.tab_term.proofs.term.pattern.differ_at.Goals as goal

pub returns : goal.returns
returns c h =
    let pattern = c.in-Some.ensures.lookup in
    let subject = c.in-Some-get.ensures.lookup in
    let unlike = unlike_at c.as_slice.result.now c.as_slice-2.result.now c.args.n c.in-Some.pattern.now c.in-Some-get.subject.now pattern.3.0 subject.3.0 pattern.1 subject.1 (c.is_another.ensures h) in
    ap₂ all_match (sym (ap terms c.as_slice.ensures.value ∙ c.patterns.view_is)) (sym (ap terms c.as_slice-2.ensures.value ∙ c.subjects.view_is)) ∙ unlike
