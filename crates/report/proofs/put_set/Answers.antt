-- The line with the set's number, and after it the lines of the answer, are the lines of the set.
use Rattle.print.proofs.Pages.{adds_both}
use Rattle.report.proofs.put_set.Goals as goal

pub returns : goal.returns
returns c = adds_both _ _ c.put_line.ensures c.put_answer.ensures
