-- `draws::draw_tasks` fills a table with the tasks of a set: the laws of the loop at its start, at each turn, and after the last.
use Rattle.std.proofs.Common.{arith}
use Rattle.draws.proofs.Filling.{filled_first, filled_more, all_drawn, all_written}
use Rattle.draws.proofs.draw_tasks.Goals as goal

pub loop-i-init : goal.loop-i-init
loop-i-init c = filled_first _ _ _ _ _ c.requires.0 (omega arith)

pub loop-i-preserved : goal.loop-i-preserved
loop-i-preserved c =
    let drew = c.draw_task-task.ensures in
    filled_more _ _ _ _ _ c.loop-i.invariant c.loop-i-test.true drew.0 drew.1 c.place.ensures c.put_task-in-loop-i.ensures (omega arith)

pub returns-clause-moved : goal.returns-clause-moved
returns-clause-moved c =
    let first = c.draw_task-first.ensures in
    all_drawn _ _ _ c.args.table.now c.requires.0 first.0 first.1 c.put_task.ensures c.loop-i.invariant c.loop-i-test.false

pub returns-clause-filled : goal.returns-clause-filled
returns-clause-filled c =
    let first = c.draw_task-first.ensures in
    all_written _ _ _ _ c.requires.0 first.0 first.1 c.put_task.ensures c.loop-i.invariant c.loop-i-test.false
