use Rattle.std.proofs.Common.{◌≡◌, drop}
use Rattle.tab_schema.specs.Options.{first_value}
use Rattle.tab_schema.proofs.options.value_of.Given as goal

abbrev pub invariant-loop-option : goal.invariant-loop-option
invariant-loop-option l = first_value l.table l.name (drop l.option-index l.options) ≡ first_value l.table l.name l.options
