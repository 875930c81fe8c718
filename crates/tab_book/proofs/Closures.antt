-- A closure may go to another thread where all that it captures may.
use mathlib.Core.List.{List, [], ◌∷◌}
use denote.RattleType.{RattleType}
use denote.Struct.Field.{row_field}
use denote.Struct.Tuple.{TupleAt, type_at}
use denote.Param.{param}
use denote.Param.Send.{IsSend, AllSend, param_send}
use denote.Param.SendFields.{FieldsHave, declared_send, as_row_send}

captures : (Ts : List RattleType) → AllSend Ts → FieldsHave IsSend (type_at [] Ts).parts
captures [] s = tt
captures (T ∷ Ts) s = (as_row_send (row_field T) s.0, captures Ts s.1)

-- the name of a closure's type, here none, says nothing of its values, so the law serves for each closure by its two fields
pub closure_send : (Ts : List RattleType) → AllSend Ts → IsSend (param 1 (TupleAt [] Ts))
closure_send Ts s = param_send 1 (TupleAt [] Ts) (declared_send (type_at [] Ts) (captures Ts s))
