-- `field::quoted_length`'s loop: at each turn the bytes before those that are left are passed, each quote among them with the one that doubles it.
use Rattle.std.proofs.Common.{length}
use Rattle.field.proofs.Fields.{Left}
use Rattle.field.proofs.quoted_length.Given as goal

abbrev pub invariant-loop-b : goal.invariant-loop-b
invariant-loop-b l = Left l.s l.rest

abbrev pub decreases-loop-b : goal.decreases-loop-b
decreases-loop-b l = length l.rest
