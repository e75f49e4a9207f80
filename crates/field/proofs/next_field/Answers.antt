-- `field::next_field` meets its contract: it finds the field, then a comma or the end of the record, as `next_field` does.
use Rattle.std.proofs.Common.{sym}
use Rattle.rules.proofs.FieldSteps.{next_none}
use Rattle.field.proofs.Fields.{comma_is, end_is, no_end_is}
use Rattle.field.proofs.next_field.Goals as goal

-- no field
pub returns-in_err-body : goal.returns-in_err-body
returns-in_err-body c = rw c.from_residual.ensures (sym (next_none _ (sym c.in_err-body.ensures)))

-- a comma
pub returns-in-Some : goal.returns-in-Some
returns-in-Some c = comma_is _ _ _ c.in_ok-body.ensures _ c.in-Some.ensures

-- neither a comma nor the end of the record
pub returns-in_err-rest : goal.returns-in_err-rest
returns-in_err-rest c = rw c.from_residual-in_err-rest.ensures (no_end_is _ _ _ c.in_ok-body.ensures c.in_default.ensures c.in_err-rest.ensures)

-- the end of the record
pub returns : goal.returns
returns c = end_is _ _ _ c.in_ok-body.ensures c.in_default.ensures _ c.in_ok-rest.ensures
