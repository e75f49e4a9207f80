-- `demand::due_of` gives what one task has due: C times its count, which fits since C is a word and the count one of 32 bits.
use Rattle.std.proofs.Common.{sym, arith}
use Rattle.rules.proofs.TaskTrains.{due_counted}
use Rattle.demand.proofs.Bounds.{times_small}
use Rattle.demand.proofs.due_of.Goals as goal

pub returns : goal.returns
returns c = (
  rw (c.from.ensures, c.from-2.ensures, c.count_within.ensures) (sym (due_counted _ c.args.task)),
  times_small _ _ (omega arith) (omega arith),
)
