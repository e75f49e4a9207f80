-- Noting a field's name is what is asked of what takes a record's fields.
use Rattle.header.proofs.Columns.{takes}
use Rattle.header.proofs.NamedTaker.take.Goals as goal

pub returns : goal.returns
returns c = takes _ _ c.args.self.now (record { columns = c.note_name.new.columns }) c.note_name.result c.note_name.ensures
