-- `say_reading`: what the reader hands back is no longer than the text, so that the bytes used are a number.
use Rattle.std.proofs.Common.{arith}
use Rattle.probe.proofs.Used.{rest_within}
use Rattle.probe.proofs.say_reading.Goals as goal

pub overflow_sub-used : goal.overflow_sub-used
overflow_sub-used c = omega (arith, rest_within c.args.text.now c.args.table.now c.read-reading.ensures)
