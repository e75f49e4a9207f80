-- `demand::demand_at` gives what is due and what is waited for: from the first task to the last, both with those of the tasks from number i on are
-- those of all, and so fit.
use Rattle.std.proofs.Common.{◌≡◌, ap, arith}
use Rattle.rules.specs.Demand.{due, total_due, wait, longest_wait}
use Rattle.rules.specs.Task.{tasks_of}
use Rattle.rules.proofs.TasksLeft.{left_all, total_due_sums, longest_wait_sums}
use Rattle.demand.proofs.Sums.{at_end, at_one, total_due_small, longest_wait_small}
use Rattle.demand.proofs.demand_at.Goals as goal

-- the first task
pub loop-i-init : goal.loop-i-init
loop-i-init c =
    let w = c.args.tasks.words.now in
    let L = c.args.length in
    let v = c.args.tasks.valid in
    let all = left_all w v 0 (omega arith) in
    record {
      due_is = omega (arith, ap (total_due L) all, at_one (total_due_sums L) w 0 (omega (arith, v.some_task)), ap (due L) c.task-first.ensures);
      wait_is = omega (arith, ap (longest_wait L) all, at_one (longest_wait_sums L) w 0 (omega (arith, v.some_task)), ap (wait L) c.task-first.ensures);
    }

pub overflow_add-due : goal.overflow_add-due
overflow_add-due c =
    let w = c.args.tasks.words.now in
    let here = at_one (total_due_sums c.args.length) w c.loop-i.i (omega arith) in
    omega (arith, here, ap (due c.args.length) c.task-task.ensures, total_due_small w c.args.tasks.valid c.args.length (omega arith))

-- one task more
pub loop-i-preserved : goal.loop-i-preserved
loop-i-preserved c =
    let w = c.args.tasks.words.now in
    let task_is = c.task-task.ensures in
    record {
      due_is = omega (arith, at_one (total_due_sums c.args.length) w c.loop-i.i (omega arith), ap (due c.args.length) task_is);
      wait_is = omega (arith, at_one (longest_wait_sums c.args.length) w c.loop-i.i (omega arith), ap (wait c.args.length) task_is);
    }

-- all tasks
pub returns : goal.returns
returns c =
    let w = c.args.tasks.words.now in
    let due_is : c.loop-i.due ≡ total_due c.args.length (tasks_of w) = omega (arith, at_end (total_due_sums c.args.length) w c.loop-i.i (omega arith)) in
    let wait_is : c.loop-i.wait ≡ longest_wait c.args.length (tasks_of w) =
    omega (arith, at_end (longest_wait_sums c.args.length) w c.loop-i.i (omega arith)) in
    record {
      due = (due_is, omega (arith, total_due_small w c.args.tasks.valid c.args.length (omega arith)));
      wait = (wait_is, omega (arith, longest_wait_small w c.args.tasks.valid c.args.length));
    }
