-- `number_in` walks over the word's bytes: at each turn the judgement of what is left of the word is that of the whole.
use Rattle.word.proofs.Walk.{ReadTo}
use Rattle.word.proofs.number_in.Given as goal

abbrev pub invariant-loop-b : goal.invariant-loop-b
invariant-loop-b l = ReadTo l.word l.fn.most l.value l.b-index
