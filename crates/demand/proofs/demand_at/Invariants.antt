-- What is due of the tasks before number i, with that of those from there on, is what is due of all; and likewise what is waited for.
use Rattle.std.proofs.Common.{◌≡◌, ◌+◌, max}
use Rattle.rules.specs.Task.{tasks_of}
use Rattle.rules.specs.Demand.{total_due, longest_wait}
use Rattle.rules.proofs.TasksLeft.{tasks_left}
use Rattle.demand.proofs.demand_at.Given as goal

abbrev pub invariant-loop-i : goal.invariant-loop-i
invariant-loop-i l = record {
  due_is : l.due + total_due l.length (tasks_left l.tasks.words.now l.i) ≡ total_due l.length (tasks_of l.tasks.words.now);
  wait_is : max l.wait (longest_wait l.length (tasks_left l.tasks.words.now l.i)) ≡ longest_wait l.length (tasks_of l.tasks.words.now);
}
