-- `field::end_record` meets its contract: the sheet ends, or LF or CR LF is looked for as a key; each is a case of `after_end`.
use Rattle.std.proofs.Common.{arith}
use Rattle.std.proofs.lemmas.Grind.{common_steps}
use Rattle.rules.proofs.FieldSteps.{ends_sheet}
use Rattle.field.proofs.Fields.{ends_in}
use Rattle.field.proofs.end_record.Goals as goal

-- the sheet ends
pub returns-then-is_empty : goal.returns-then-is_empty
returns-then-is_empty c = ends_sheet _ (grind (arith, common_steps))

-- a line end, or none
pub returns : goal.returns
returns c = rw c.or.ensures (ends_in c.args.s.now (grind (arith, common_steps)) c.skip_key.result c.skip_key-2.result c.skip_key.ensures c.skip_key-2.ensures)
