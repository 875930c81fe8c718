-- Changes on their way to their tables.
use Rattle.tab_model.specs.declared.data.Change.{Change}
use Rattle.tab_model.specs.declared.data.Change.TheVariants as change
use Rattle.tab_rows.specs.declared.update.Form.{Form}
use Rattle.tab_rows.specs.declared.update.Form.TheVariants as form

-- the change itself
abbrev pub change_in : Form → Change
change_in (form.Only row) = change.Write row
change_in (form.Change c) = c
