-- The words for a line.
use Rattle.wording.proofs.put_wrong.Goals as goal

pub returns-in-BadLine : goal.returns-in-BadLine
returns-in-BadLine c = rw c.in-BadLine.is c.put_phrase.ensures
