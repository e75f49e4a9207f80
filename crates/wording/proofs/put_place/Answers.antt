-- Each arm puts the two parts of the place that it has found, one after the other.
use Rattle.print.proofs.Pages.{adds_both}
use Rattle.wording.proofs.put_place.Goals as goal

pub returns-in-Sheet : goal.returns-in-Sheet
returns-in-Sheet c = rw c.in-Sheet.is (adds_both _ _ c.put_phrase.ensures (rw c.column_name.ensures at c.put_bytes.ensures))

pub returns-in-Text : goal.returns-in-Text
returns-in-Text c = rw c.in-Text.is (adds_both _ _ c.put_bytes-in-Text.ensures c.put_number.ensures)
