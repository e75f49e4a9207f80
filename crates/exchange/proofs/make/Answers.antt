-- `exchange::make` meets its contract: there is room for the words of any input, and for all that is written of a table.
use Rattle.exchange.proofs.Becomes.{when_read}
use Rattle.exchange.proofs.make.Goals as goal

pub returns : goal.returns
returns c = when_read _ _ c.read_table.ensures c.in_ok-n.n c.in_ok-n.was c.requires c.write_table.ensures
