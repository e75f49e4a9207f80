-- `turn::Waiting::choose`: at first the turn of no task is held, and each step holds on to what it has or takes what the task offers.
use Rattle.std.proofs.Common.{arith}
use Rattle.turn.proofs.Walk.{held_none, held_still, held_more}
use Rattle.turn.proofs.Waiting.choose.Goals as goal

pub loop-i-init : goal.loop-i-init
loop-i-init c = held_none c.args.self.now.tasks.words.now c.args.self.now.plan c.args.self.now.next c.args.t _ _ c.count-i.ensures

pub loop-i-preserved-in-Some : goal.loop-i-preserved-in-Some
loop-i-preserved-in-Some c =
    held_more _ _ _ _ _ _ _ (omega arith) (omega arith) _ _ c.loop-i.invariant c.in-Some.ensures c.sooner-best.ensures.first c.sooner-best.ensures.only

pub loop-i-preserved : goal.loop-i-preserved
loop-i-preserved c = held_still _ _ _ _ _ _ _ (omega arith) (omega arith) c.loop-i.invariant c.in_default.ensures
