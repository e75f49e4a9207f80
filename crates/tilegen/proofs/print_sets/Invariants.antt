-- `tilegen::print_sets`: all of the sets before this number are printed, and the state is the one after them. It ends: each piece has a set at least.
use Rattle.std.proofs.Common.{◌-◌}
use Rattle.tilegen.proofs.Following.{Printed}
use Rattle.tilegen.proofs.print_sets.Given as goal

abbrev pub invariant-loop-number : goal.invariant-loop-number
invariant-loop-number g l =
    Printed l.seed l.count (g.W.Write.contents l.initial.stdout) (g.W.Write.contents l.stdout) l.number l.state

abbrev pub decreases-loop-number : goal.decreases-loop-number
decreases-loop-number g l = l.count - l.number
