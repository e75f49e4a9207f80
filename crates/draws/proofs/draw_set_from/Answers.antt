-- `draws::draw_set_from`: the count's draw says how long the set is; a shorter table ends it with all as it was, and else the tasks are drawn into
-- the table and the state is the one after them.
use Rattle.std.proofs.Common.{arith}
use Rattle.rules.proofs.Drawn.{set_short, set_drew}
use Rattle.draws.proofs.draw_set_from.Goals as goal

pub returns-then-table-count : goal.returns-then-table-count
returns-then-table-count c = set_short _ _ c.draw_from.ensures (omega arith)

pub returns : goal.returns
returns c = set_drew _ _ c.draw_from.ensures (omega arith) c.draw_tasks.ensures.moved c.draw_tasks.ensures.filled
