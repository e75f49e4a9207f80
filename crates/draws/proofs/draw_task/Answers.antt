-- `draws::draw_task`: four draws, one after another, are the rules' task and leave the rules' state.
use Rattle.rules.proofs.Drawn.{task_drew}
use Rattle.draws.proofs.draw_task.Goals as goal

pub returns : goal.returns
returns c = task_drew c.draw_from.ensures c.draw_from-2.ensures c.draw_from-3.ensures c.draw_from-R.ensures
