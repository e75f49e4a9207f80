-- `texts::put_sets` meets its contract: each text has 264 bytes at most, so there is room for the next, and after the last turn no set is left.
use Rattle.std.proofs.Common.{arith}
use Rattle.texts.proofs.Turns.{at_first, at_next, at_last}
use Rattle.texts.proofs.put_sets.Goals as goal

pub loop-i-init : goal.loop-i-init
loop-i-init c = at_first _ _ _

pub loop-i-preserved : goal.loop-i-preserved
loop-i-preserved c = at_next _ _ _ c.loop-i.invariant c.put_set-at.ensures (omega arith) (omega arith)

pub returns : goal.returns
returns c = at_last _ _ _ c.loop-i.invariant (omega arith)
