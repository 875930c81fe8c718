-- An operation as a trace keeps it.
use Rattle.tab_model.specs.declared.data.Operation.{Operation}
use Rattle.tab_model.specs.declared.data.Operation.TheVariants as op
use Rattle.tab_model.specs.declared.logged_operation.OperationForm.{OperationForm}
use Rattle.tab_model.specs.declared.logged_operation.OperationForm.TheVariants as form

-- the operation itself
abbrev pub operation_in : OperationForm → Operation
operation_in (form.Only row) = op.Write row
operation_in (form.Write row) = op.Write row
operation_in (form.Read table key) = op.Read table key
operation_in (form.ReadForWrite table key) = op.ReadForWrite table key
operation_in (form.Other o) = o.value
