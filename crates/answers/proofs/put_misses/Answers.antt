-- Four lines, one after the other, are the lines of the verdict.
use Rattle.print.proofs.Pages.{adds_both}
use Rattle.answers.proofs.put_misses.Goals as goal

pub returns : goal.returns
returns c = adds_both _ _ c.put_line.ensures (adds_both _ _ c.put_line-2.ensures (adds_both _ _ c.put_blocker.ensures c.put_line-3.ensures))
