use Rattle.tab_schema.proofs.OptionsLemmas.{second_one, next_option, is_found}
use Rattle.tab_schema.proofs.options.bad_option.Goals as goal

pub returns-then-is_some : goal.returns-then-is_some
returns-then-is_some c =
    second_one c.args.table.now c.in-Some.name.now c.args.options.now c.loop-n.n c.index-options-n.result _ c.loop-n-test.true c.index-options-n.is c.in-Some.ensures.some.0
    (is_found c.value_of.result _ c.is_some.result _ c.value_of.ensures c.is_some.ensures c.if-is_some.true) c.loop-n.invariant

pub loop-n-preserved : goal.loop-n-preserved
loop-n-preserved c =
    next_option c.args.table.now c.in-Some.name.now c.args.options.now c.loop-n.n c.index-options-n.result _ c.loop-n-test.true c.index-options-n.is c.in-Some.ensures.some.0
    (is_found c.value_of.result _ c.is_some.result _ c.value_of.ensures c.is_some.ensures c.if-is_some.false) c.loop-n.invariant
