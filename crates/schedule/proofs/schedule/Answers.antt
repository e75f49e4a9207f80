-- `schedule::schedule` gives the concrete schedule: refusals 1 to 4 by the table's check, 5 by the test of the end tick, and the rest as the
-- dispatcher does with the concrete plan.
use Rattle.std.proofs.Common.{◌≡◌, ℕ, ◌≤◌, ◌<◌, subst, arith}
use mathlib.Core.Logic.{◌⊎◌}
use mathlib.Core.List.{List}
use Rattle.std.proofs.lemmas.Result.{err_from_is_err_and}
use Rattle.std.proofs.lemmas.Bool.Decides.{nat_tests}
use Rattle.rules.specs.Task.{tasks_of}
use Rattle.rules.specs.Jobs.{concrete}
use Rattle.rules.specs.Calls.{Dispatches}
use Rattle.rules.proofs.Calls.{schedule_refused, schedule_end, schedule_rows_law}
use Rattle.schedule.proofs.schedule.Goals as goal

-- 1 to 4
pub returns-in_err-tasks : goal.returns-in_err-tasks
returns-in_err-tasks c =
    let p = err_from_is_err_and c.from_residual.result c.from_residual.ensures.1 in
    rw p.1 (schedule_refused _ _ _ _ (rw p.2 c.in_err-tasks.ensures))

-- 5
pub returns-then-not-contains : goal.returns-then-not-contains
returns-then-not-contains c =
    let out : (c.args.z ≡ 0) ⊎ (100000 < c.args.z) = grind (arith, nat_tests) in
    schedule_end _ _ _ c.in_ok-tasks.ensures.0 out

-- 6, or the rows
pub returns : goal.returns
returns c =
    let low : 1 ≤ c.args.z = grind (arith, nat_tests) in
    let high : c.args.z ≤ 100000 = grind (arith, nat_tests) in
    let rows =
    subst (λ (w : List ℕ). Dispatches (concrete c.args.z (tasks_of w)) c.args.rows.now c.dispatch.result c.dispatch.new.rows)
    c.in_ok-tasks.ensures.1 c.dispatch.ensures
    in
    schedule_rows_law _ _ _ c.in_ok-tasks.ensures.0 low high rows
