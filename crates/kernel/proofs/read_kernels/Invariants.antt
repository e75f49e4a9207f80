-- `kernel::read_kernels`'s loop: at each turn the words of the records so far, ahead of what reading the others gives, are what reading all of them
-- gives; there are at most as many records as a tile has tasks.
use Rattle.std.proofs.Common.{◌≡◌, ◌+◌, ◌-◌, ◌*◌, ◌≤◌, length, take}
use Rattle.rules.specs.Numbers.{task_most, table_most}
use Rattle.rules.specs.Sheet.{words_ahead, read_tasks}
use Rattle.kernel.proofs.read_kernels.Given as goal

abbrev pub invariant-loop-rest : goal.invariant-loop-rest
invariant-loop-rest l =
    (l.n ≤ task_most)
    × (length l.words ≡ table_most)
    × (words_ahead (take (4 * l.n) l.words) (read_tasks l.header.count l.header.columns (task_most - l.n) (l.n + 2) l.rest) ≡ read_tasks l.header.count l.header.columns task_most 2 l.header.rest.now)

abbrev pub decreases-loop-rest : goal.decreases-loop-rest
decreases-loop-rest l = task_most - l.n
