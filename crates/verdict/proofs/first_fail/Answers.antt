-- `verdict::first_fail` finds the least length that fails, with its excess: it looks at one after the other, and none before the one looked at
-- fails, so that the excess there is below the sum of the executions and fits.
use Rattle.std.proofs.Common.{arith}
use Rattle.rules.proofs.Search.{none_until}
use Rattle.rules.proofs.Looks.{first_fail_at, first_fail_none}
use Rattle.rules.proofs.Excess.{excess_of_table}
use Rattle.demand.proofs.Excesses.{fails_above_0, passes_at_0}
use Rattle.verdict.proofs.first_fail.Goals as goal

-- the length fails, and is the first that does
pub overflow_cast-result : goal.overflow_cast-result
overflow_cast-result c =
    let at_loop = c.loop-length.invariant in
    let over = fails_above_0 _ _ _ c.excess_at-over.ensures (omega arith) in
    let most =
    excess_of_table _ _ c.args.tasks.valid _
    (record { low = at_loop.low; high = omega arith; passes = over.0; none_before = at_loop.none_before }) in
    omega (arith, over.1, most)

pub returns-then-over-gt0 : goal.returns-then-over-gt0
returns-then-over-gt0 c =
    let at_loop = c.loop-length.invariant in
    let over = fails_above_0 _ _ _ c.excess_at-over.ensures (omega arith) in
    (first_fail_at _ _ at_loop.none_before at_loop.low (omega arith) over.0, over.1)

-- it does not
pub loop-length-preserved : goal.loop-length-preserved
loop-length-preserved c = record {
  low = omega arith;
  high = omega arith;
  none_before = none_until _ _ _ c.loop-length.invariant.none_before (passes_at_0 _ _ _ c.excess_at-over.ensures (omega arith));
}

-- none fails
pub returns : goal.returns
returns c = first_fail_none _ _ c.loop-length.invariant.none_before (omega arith)
