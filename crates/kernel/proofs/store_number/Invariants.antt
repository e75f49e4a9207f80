-- `kernel::store_number`'s loop: at each turn the words before k whose column it is hold the number, and the others are as they were.
use Rattle.kernel.proofs.Stored.{Stored}
use Rattle.kernel.proofs.store_number.Given as goal

abbrev pub invariant-loop-k : goal.invariant-loop-k
invariant-loop-k l = Stored l.body l.column l.columns l.initial.words l.words l.k
