-- `writer::put`: the words still to put, put at the page's place, give at each turn the same buffer.
use Rattle.std.proofs.Common.{◌≡◌, ◌++◌, length, drop}
use Rattle.print.proofs.Pages.{ToCome}
use Rattle.writer.proofs.put.Given as goal

abbrev pub invariant-loop-k : goal.invariant-loop-k
invariant-loop-k g l = record {
  same : l.page.out.ghost_name ≡ l.initial.page.out.ghost_name;
  to_come :
      (let whole = g.F.Form.make l.tasks.words.now in
      ToCome (whole ++ drop (length whole) l.fn.out) l.page (g.F.Form.words l.k (drop l.k l.tasks.words.now)));
}
