-- A longer input gives its one line.
use Rattle.std.proofs.Common.{arith, rules}
use Rattle.output.proofs.Turns.{too_long}
use Rattle.output.proofs.output.Goals as goal

pub returns-then-input-gt-INPUT_MOST : goal.returns-then-input-gt-INPUT_MOST
returns-then-input-gt-INPUT_MOST c = too_long c.args.input.now _ (omega arith) (search rules)
