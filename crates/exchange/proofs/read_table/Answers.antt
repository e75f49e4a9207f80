-- `exchange::read_table` meets its contract: each arm reads by the source that it has found, and no input has more words than there is room for.
use Rattle.exchange.proofs.Becomes.{read_sheet, read_text}
use Rattle.exchange.proofs.read_table.Goals as goal

pub returns-in-Sheet : goal.returns-in-Sheet
returns-in-Sheet c = rw c.in-Sheet.is (read_sheet _ _ c.requires c.read_sheet.ensures)

pub returns-in-Text : goal.returns-in-Text
returns-in-Text c = rw c.in-Text.is (read_text _ _ c.requires c.read.ensures)
