-- After each turn the lines of the sets read so far stand at the start of out, and with those of the sets that are left they are the output;
-- each turn leaves less to read.
use Rattle.std.proofs.Common.{length}
use Rattle.output.proofs.Turns.{SoFar}
use Rattle.output.proofs.put_sets.Given as goal

abbrev pub invariant-loop-text : goal.invariant-loop-text
invariant-loop-text l = SoFar l.input l.fn.out l.out l.number l.text l.at

abbrev pub decreases-loop-text : goal.decreases-loop-text
decreases-loop-text l = length l.text
