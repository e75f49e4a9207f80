-- `demand::excess_at` gives the excess of what is due and what is waited for: by cases on whether anything is due.
use Rattle.std.proofs.Common.{sym, arith}
use Rattle.rules.specs.Task.{tasks_of}
use Rattle.demand.proofs.Excesses.{nothing_due, something_due}
use Rattle.demand.proofs.excess_at.Goals as goal

-- nothing is due
pub returns-then-due-eq0 : goal.returns-then-due-eq0
returns-then-due-eq0 c = sym (nothing_due _ _ (omega (arith, c.demand_at-due.ensures.due.0)))

-- something is
pub returns : goal.returns
returns c =
    let sum = something_due c.args.length (tasks_of c.args.tasks.words.now) (omega (arith, c.demand_at-due.ensures.due.0)) in
    omega (arith, c.demand_at-due.ensures.due.0, c.demand_at-due.ensures.wait.0, sum)
