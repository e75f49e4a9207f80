-- `dispatch::run` writes the rows of a plan's jobs: each turn of the loop is one row of the rules' dispatcher, and after n of
-- them no job is left.
use Rattle.std.proofs.Common.{◌≡◌}
use Rattle.rules.specs.Table.{task_count}
use Rattle.dispatch.proofs.Loop.{State}
use Rattle.dispatch.proofs.run.Given as goal

abbrev pub invariant-loop-k : goal.invariant-loop-k
invariant-loop-k l = record {
  words : l.waiting.tasks.words.now ≡ l.tasks.words.now;
  plan : l.waiting.plan ≡ l.fn.plan;
  state : State l.tasks.words.now l.fn.plan l.initial.rows (task_count l.tasks.words.now) l.n l.rows l.waiting.next l.t l.late l.k;
}
