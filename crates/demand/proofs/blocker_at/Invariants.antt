-- From the last task to the first, the longest wait of the tasks from number i on is held, and the lowest of those that have it.
use Rattle.rules.proofs.TasksLeft.{tasks_left}
use Rattle.rules.proofs.LongestWait.{Longest}
use Rattle.demand.proofs.blocker_at.Given as goal

abbrev pub invariant-loop-i : goal.invariant-loop-i
invariant-loop-i l = Longest l.length l.i (tasks_left l.tasks.words.now l.i) l.most l.first
