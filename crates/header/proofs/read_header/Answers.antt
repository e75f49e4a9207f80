-- `header::read_header` meets its contract: a record that is not as due, a name that comes twice and one that never came make the header bad; where none
-- does, all of the record is read and its columns are noted.
use Rattle.std.proofs.Common.{refl}
use Rattle.header.proofs.Columns.{headless, headed_bad, headed_good, good_within}
use Rattle.header.proofs.read_header.Goals as goal

-- no record, or a name that comes twice
pub returns-in_err-count : goal.returns-in_err-count
returns-in_err-count c = rw c.from_residual.ensures (headless _ _ refl c.in_err-count.ensures)

-- a name that never came
pub returns-in_err-columns : goal.returns-in_err-columns
returns-in_err-columns c = rw c.from_residual-in_err-columns.ensures (headed_bad _ _ refl c.in_ok-count.ensures _ c.in_err-columns.ensures.1 c.in_err-columns.ensures.2)

-- a good header
pub returns : goal.returns
returns c = headed_good _ _ refl c.in_ok-count.ensures _ c.in_ok-columns.ensures

pub invariant_of-result : goal.invariant_of-result
invariant_of-result c = record { within = good_within (headed_good _ _ refl c.in_ok-count.ensures _ c.in_ok-columns.ensures) }
