-- `demand::blocker_at` gives the blocker: from the last task to the first, it holds the longest wait of the tasks from number i on, and the lowest
-- of those that have it, since a task that waits as long takes the place of one further on.
use Rattle.std.proofs.Common.{◌≡◌, sym, ap, subst, ◌∙◌, ℕ, arith}
use Rattle.rules.specs.Demand.{wait}
use Rattle.rules.specs.Table.{task_count}
use Rattle.rules.proofs.Blockers.{blocker_nobody}
use Rattle.rules.proofs.LongestWait.{Longest, longest_none, longest_all, longest_new, longest_on, longest_blocks}
use Rattle.rules.proofs.TasksLeft.{tasks_left}
use Rattle.demand.proofs.blocker_at.Goals as goal

pub loop-i-init : goal.loop-i-init
loop-i-init c =
    let w = c.args.tasks.words.now in
    let none : task_count w ≡ c.count-i.result = omega arith in
    subst (λ (k : ℕ). Longest c.args.length k (tasks_left w k) 0 0) none (longest_none w c.args.length)

-- task i waits as long, or longer
pub loop-i-preserved-then-most-wait : goal.loop-i-preserved-then-most-wait
loop-i-preserved-then-most-wait c =
    longest_new _ _ _ (omega arith) (omega arith) _ _ c.loop-i.invariant _ (c.wait_of-wait.ensures ∙ ap (wait _) c.task.ensures) (omega arith)

-- task i does not wait as long
pub loop-i-preserved : goal.loop-i-preserved
loop-i-preserved c =
    longest_on _ _ _ (omega arith) (omega arith) _ _ c.loop-i.invariant _ (c.wait_of-wait.ensures ∙ ap (wait _) c.task.ensures) (omega arith)

-- of all tasks
pub returns-then-most-eq0 : goal.returns-then-most-eq0
returns-then-most-eq0 c =
    let all = longest_all _ _ _ _ _ c.args.tasks.valid (omega arith) c.loop-i.invariant in
    sym ((blocker_nobody _ _).1 (sym all.most_is ∙ c.if-most-eq0.true))

pub returns : goal.returns
returns c = sym (longest_blocks _ _ _ _ (longest_all _ _ _ _ _ c.args.tasks.valid (omega arith) c.loop-i.invariant) c.if-most-eq0.false)
