-- `demand::work_of` gives one task's part of the work: C times a quotient rounded up, which fits since C is a word and the quotient one of 32 bits.
use Rattle.std.proofs.Common.{arith}
use Rattle.rules.proofs.Verdicts.{ceiling_is}
use Rattle.demand.proofs.Bounds.{times_small, rounded_up}
use Rattle.demand.proofs.work_of.Goals as goal

pub returns : goal.returns
returns c = (
  rw (c.from.ensures, c.from-2.ensures, c.div_ceil.ensures, rounded_up c.args.t c.args.task.T (omega arith), ceiling_is c.args.t c.args.task.T),
  times_small _ _ (omega arith) (omega arith),
)
