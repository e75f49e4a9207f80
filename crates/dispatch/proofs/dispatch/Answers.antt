-- `dispatch::dispatch` gives the rows of a plan's jobs: every job has a row, so the buffer is too short for the jobs that were counted, or their rows
-- are written.
use Rattle.std.proofs.Common.{arith}
use Rattle.rules.proofs.Planned.{planned_rows}
use Rattle.rules.proofs.Calls.{dispatch_short}
use Rattle.dispatch.proofs.dispatch.Goals as goal

-- the buffer is too short
pub returns-then-rows-n : goal.returns-then-rows-n
returns-then-rows-n c = dispatch_short _ _ (omega (arith, planned_rows c.args.plan _ _ c.args.tasks.valid))
