-- `field::read_record`'s loop: at each turn the contents of the fields so far, before what reading the record's other fields gives, are the record, and
-- they are taken; the bytes left get fewer.
use Rattle.std.proofs.Common.{◌+◌, ◌≤◌, length}
use Rattle.rules.specs.Sheet.{read_record}
use Rattle.field.proofs.Takers.{Taking}
use Rattle.field.proofs.read_record.Given as goal

abbrev pub invariant-loop-field : goal.invariant-loop-field
invariant-loop-field g l = (l.n + length l.rest ≤ length l.s) × Taking g.T.Taker.taken l.s (read_record l.rest) l.n l.initial.to l.to

abbrev pub decreases-loop-field : goal.decreases-loop-field
decreases-loop-field g l = length l.rest
