-- `exchange::exchange` meets its contract: an input that is too long is told so; else a refusal is told, for which there are words and room, or what
-- is made stands in out.
use Rattle.std.proofs.Common.{arith}
use Rattle.wording.proofs.Sentences.{sentence_most}
use Rattle.exchange.proofs.Becomes.{when_long, names, when_refused, when_made}
use Rattle.exchange.proofs.Outcome.{told_so}
use Rattle.exchange.proofs.exchange.Goals as goal

pub returns-then-input-gt-INPUT_MOST : goal.returns-then-input-gt-INPUT_MOST
returns-then-input-gt-INPUT_MOST c = when_long _ _ (omega (arith, c.if-input-gt-INPUT_MOST.true)) (told_so _ c.put_too_long.ensures)

pub put_sentence-requires : goal.put_sentence-requires
put_sentence-requires c = (
  names _ _ (omega arith) c.make.ensures _ c.in-Err.is,
  omega (arith, sentence_most c.args.source c.in-Err.r, c.make.auto.out, c.requires),
)

pub returns-in-Ok : goal.returns-in-Ok
returns-in-Ok c = when_made _ _ (omega arith) c.make.ensures _ c.in-Ok.is

pub returns-in-Err : goal.returns-in-Err
returns-in-Err c = when_refused _ _ (omega arith) c.make.ensures _ c.in-Err.is (told_so _ c.put_sentence.ensures)
