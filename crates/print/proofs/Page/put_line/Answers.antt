-- A line is its key, its value and byte 10.
use Rattle.std.proofs.Common.{arith, length-append}
use Rattle.rules.proofs.WriteSteps.{line_is, line_length}
use Rattle.print.proofs.Page.put_line.Goals as goal

pub put_phrase-requires : goal.put_phrase-requires
put_phrase-requires g c = simp length-append (omega (arith, c.requires, line_length c.args.key.now (g.V.Part.shown c.args.value)))

pub returns : goal.returns
returns g c = rw line_is c.put_phrase.ensures
