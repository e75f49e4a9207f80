-- `turn::Waiting::choose` finds the next job of all tasks: what is best from task i on stays known while i goes down to 0.
use Rattle.rules.specs.Table.{task_count}
use Rattle.turn.specs.Counters.{Held}
use Rattle.turn.proofs.Waiting.choose.Given as goal

abbrev pub invariant-loop-i : goal.invariant-loop-i
invariant-loop-i l = Held l.self.tasks.words.now l.self.plan l.self.next l.t (task_count l.self.tasks.words.now) l.i l.best
