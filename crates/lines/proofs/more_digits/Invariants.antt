-- `lines::more_digits`'s loop: at each turn `more_digits` of what is left is that of the whole, and what is read has at most as many digits as
-- turns were made and the first.
use Rattle.std.proofs.Common.{◌≡◌, ◌+◌, ◌-◌, ◌<◌, ◌^◌}
use Rattle.rules.specs.Text.{more_digits}
use Rattle.lines.proofs.more_digits.Given as goal

abbrev pub invariant-loop : goal.invariant-loop
invariant-loop l =
    record {
      reads : more_digits 4 l.first l.s ≡ more_digits (4 - l.counter) l.v l.rest;
      short : l.v < 10 ^ (l.counter + 1);
    }
