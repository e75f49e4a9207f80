-- The line with the number, and after it the line of what is carried, are the lines of the refusal.
use Rattle.print.proofs.Pages.{adds_both}
use Rattle.answers.proofs.put_refusal.Goals as goal

pub returns : goal.returns
returns c = adds_both _ _ (rw c.refusal_number.ensures at c.put_line.ensures) (rw c.refusal_carries.ensures at c.put_carried.ensures)
