use Rattle.std.proofs.Common.{◌≡◌, [], drop, take}
use Rattle.tab_term.specs.View.{terms}
use Rattle.tab_model.specs.Definitions.{bad_option}
use Rattle.tab_schema.proofs.OptionsLemmas.{names_after}
use Rattle.tab_schema.proofs.options.bad_option.Given as goal

abbrev pub invariant-loop-n : goal.invariant-loop-n
invariant-loop-n l = bad_option l.table (names_after l.table [] (take l.n l.options)) (terms (drop l.n l.options)) ≡ bad_option l.table [] (terms l.options)
