-- `stdio::read_input`: what was read so far lies at the start of the buffer. It ends: each turn either reads a byte, of which there is room for so
-- many, or spends one of the tries that are left until the next byte.
use Rattle.std.proofs.Common.{length, ◌-◌, ◌≤◌, ◌≡◌, ◌+◌, ◌*◌, take}
use Rattle.std.specs.Io.KnownBytes.{Consumes}
use Rattle.stdio.proofs.read_input.Given as goal

abbrev pub invariant-loop-at : goal.invariant-loop-at
invariant-loop-at g l =
    (l.at ≤ length l.buf) × (length l.buf ≡ length l.initial.buf) × (l.tries.0 ≤ 10000000)
    × Consumes (g.R.Read.remaining l.initial.input) (g.R.Read.remaining l.input) (take l.at l.buf)

abbrev pub decreases-loop-at : goal.decreases-loop-at
decreases-loop-at g l = (length l.initial.buf - l.at) * 10000001 + l.tries.0
