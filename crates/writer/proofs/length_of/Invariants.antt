-- `writer::length_of`: the total and the length of the words still to count are at each turn the length of the whole; words of at most 14 bytes,
-- with what stands before and after, keep it small.
use Rattle.std.proofs.Common.{◌≡◌, ◌+◌, ◌*◌, ◌≤◌, length, drop}
use Rattle.writer.proofs.length_of.Given as goal

abbrev pub invariant-loop-k : goal.invariant-loop-k
invariant-loop-k g l = record {
  small : l.total ≤ 35 + 14 * l.k;
  counted : l.total + length (g.F.Form.words l.k (drop l.k l.tasks.words.now)) ≡ length (g.F.Form.make l.tasks.words.now);
}
