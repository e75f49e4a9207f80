-- `draws::draw_tasks`: the first task is as drawn, each turn of the loop is one task more, and after n of them none is left to draw.
use Rattle.draws.proofs.Filling.{Filled}
use Rattle.draws.proofs.draw_tasks.Given as goal

abbrev pub invariant-loop-i : goal.invariant-loop-i
invariant-loop-i l = Filled l.initial.state l.n l.asked l.initial.table l.initial.least l.state l.table l.least l.i
