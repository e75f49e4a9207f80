-- `stdio::write_output`: what was written so far is a beginning of the bytes. It ends: each turn either writes a byte or spends one of the tries
-- that are left until the next byte.
use Rattle.std.proofs.Common.{length, ◌-◌, ◌≤◌, ◌+◌, ◌*◌, take}
use Rattle.std.specs.Io.KnownBytes.{Appends}
use Rattle.stdio.proofs.write_output.Given as goal

abbrev pub invariant-loop-at : goal.invariant-loop-at
invariant-loop-at g l =
    (l.at ≤ length l.bytes) × (l.tries.0 ≤ 10000000) × Appends (g.W.Write.contents l.initial.output) (g.W.Write.contents l.output) (take l.at l.bytes)

abbrev pub decreases-loop-at : goal.decreases-loop-at
decreases-loop-at g l = (length l.bytes - l.at) * 10000001 + l.tries.0
