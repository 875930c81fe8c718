-- The entries that a merged walk has not come to.
use Rattle.std.specs.Prelude.{List}
use Rattle.tab_lists.specs.declared.merged.Sources.{Sources}
use Rattle.tab_lists.specs.declared.merged.Sources.TheVariants as sources
use Rattle.tab_lists.specs.ByKey.{Entry}
use Rattle.tab_lists.specs.Left.{left_of}

-- the table's alone, or those of both
abbrev pub entries_left : Sources → List Entry
entries_left (sources.Table l) = left_of l
entries_left (sources.Both es) = es
