-- `header::note_name`'s loop: at each turn the names looked at have the column if they are the bytes, and the others stay.
use Rattle.header.proofs.Noting.{Noting}
use Rattle.header.proofs.note_name.Given as goal

abbrev pub invariant-loop-k : goal.invariant-loop-k
invariant-loop-k l = Noting l.body l.column l.initial.columns l.k l.columns
