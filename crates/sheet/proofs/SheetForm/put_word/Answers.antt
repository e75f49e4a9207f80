-- A word of a sheet is its digits, and then the line end after a task's last word, a comma after the others.
use Rattle.print.proofs.Pages.{adds_both}
use Rattle.rules.proofs.SheetWriting.{after_other}
use Rattle.sheet.proofs.SheetForm.put_word.Goals as goal

pub returns-then-which-eq3 : goal.returns-then-which-eq3
returns-then-which-eq3 c = rw c.if-which-eq3.true (adds_both _ _ c.put_number.ensures c.put_bytes.ensures)

pub returns-else-which-eq3 : goal.returns-else-which-eq3
returns-else-which-eq3 c = rw (after_other c.args.which c.requires.low c.if-which-eq3.false) (adds_both _ _ c.put_number.ensures c.put_bytes-else-which-eq3.ensures)
