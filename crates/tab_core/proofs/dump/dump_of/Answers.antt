use Rattle.std.proofs.Common.{sym, ap, ◌∙◌}
use Rattle.std.specs.Option.{option_copied}
use Rattle.tab_model.specs.Names.{plain_terms}
use Rattle.tab_lists.specs.ByKey.{joined}
use Rattle.tab_core.proofs.Dumps.{dumped}
use Rattle.tab_core.proofs.dump.dump_of.Goals as goal

pub returns : goal.returns
returns c =
    dumped c.args.tables.now c.args.name.now c.args.dump c.in-Some.table.now c.from_records.result c.if-not-dump.false (sym c.table.ensures ∙ ap option_copied c.in-Some.is)
    (c.from_records.ensures ∙ ap (λ es. plain_terms (joined es)) c.in_ok-share.ensures ∙ ap plain_terms c.records.ensures.records)
