-- The place, and after it the range, whose least value is that of the table.
use Rattle.print.proofs.Pages.{adds_both}
use Rattle.wording.proofs.put_out_of_range.Goals as goal

pub returns : goal.returns
returns c = adds_both _ _ c.put_place.ensures (rw c.word_least-least.ensures at c.put_phrase.ensures)
