-- `scan::task_lines`: the words stored, put ahead of what reading the lines that are left gives, are what reading all of them gives.
use Rattle.std.proofs.Common.{◌-◌, length, take, ◌≡◌}
use Rattle.rules.specs.Text.{read_lines}
use Rattle.rules.proofs.ReadSets.{aheads}
use Rattle.scan.proofs.task_lines.Given as goal

abbrev pub invariant-loop-k : goal.invariant-loop-k
invariant-loop-k l = read_lines (length l.fn.words) 0 l.s ≡ aheads (take l.k l.words) (read_lines (length l.fn.words - l.k) l.k l.rest)
