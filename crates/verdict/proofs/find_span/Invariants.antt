-- None before t closes; where t does not close none before its work does, so that t grows, at most to H.
use Rattle.std.proofs.Common.{◌-◌, ◌≤◌}
use Rattle.rules.specs.Task.{tasks_of}
use Rattle.rules.specs.Numbers.{horizon}
use Rattle.rules.specs.Demand.{closes}
use Rattle.rules.proofs.Search.{NonePasses}
use Rattle.verdict.proofs.find_span.Given as goal

abbrev pub invariant-loop-t : goal.invariant-loop-t
invariant-loop-t l = record {
  low : 1 ≤ l.t;
  high : l.t ≤ horizon;
  none_before : NonePasses (λ s. closes s (tasks_of l.tasks.words.now)) 1 l.t;
}

abbrev pub decreases-loop-t : goal.decreases-loop-t
decreases-loop-t l = horizon - l.t
