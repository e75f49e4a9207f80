-- `texts::put_sets`: after each turn the texts of the sets drawn so far stand at the start of out.
use Rattle.texts.proofs.Turns.{SoFar}
use Rattle.texts.proofs.put_sets.Given as goal

abbrev pub invariant-loop-i : goal.invariant-loop-i
invariant-loop-i l = SoFar l.initial.state l.number l.initial.out l.state l.out l.at l.i
