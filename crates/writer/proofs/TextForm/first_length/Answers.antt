-- The first line of a text: the key, the digits of the count, byte 10.
use Rattle.std.proofs.Common.{length, ◌/◌, ap, arith, ℕ}
use Rattle.rules.specs.Text.{tasks_key, digits}
use Rattle.rules.proofs.WriteSteps.{line_length}
use Rattle.writer.proofs.TextForm.first_length.Goals as goal

pub returns : goal.returns
returns c =
    let count = ap (λ (n : ℕ). length (digits n)) c.count.ensures in
    (omega (arith, count, line_length tasks_key (digits (length c.args.tasks.words.now / 4))), omega arith)
