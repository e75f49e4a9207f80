-- Storing a field's number is what is asked of what takes a record's fields.
use Rattle.kernel.proofs.Rows.{takes}
use Rattle.kernel.proofs.RowTaker.take.Goals as goal

pub returns : goal.returns
returns c = takes _ _ c.args.self.now c.store_number.new.words c.store_number.result c.store_number.ensures
