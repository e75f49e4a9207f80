-- No length before the one looked at fails.
use Rattle.std.proofs.Common.{◌+◌, ◌≤◌}
use Rattle.rules.specs.Task.{tasks_of}
use Rattle.rules.specs.Numbers.{horizon}
use Rattle.rules.specs.Demand.{fails}
use Rattle.rules.proofs.Search.{NonePasses}
use Rattle.verdict.proofs.first_fail.Given as goal

abbrev pub invariant-loop-length : goal.invariant-loop-length
invariant-loop-length l = record {
  low : 1 ≤ l.length;
  high : l.length ≤ horizon + 1;
  none_before : NonePasses (λ L. fails L (tasks_of l.tasks.words.now)) 1 l.length;
}
