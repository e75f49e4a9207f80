-- `lines::more_digits` meets its contract: each turn is a step of `more_digits`, and the number has at most five digits, so it does not wrap.
use Rattle.std.proofs.Common.{◌∙◌, arith}
use Rattle.rules.proofs.ReadSteps.{more_none, more_end}
use Rattle.lines.proofs.Searches.{no_digit_next, digit_next, room_step}
use Rattle.lines.proofs.more_digits.Goals as goal

-- no byte is left
pub returns-in_default : goal.returns-in_default
returns-in_default c = c.loop.invariant.reads ∙ more_none _ _ _ c.in_default.ensures.cases

-- no digit is next
pub returns-in_default-digit : goal.returns-in_default-digit
returns-in_default-digit c = c.loop.invariant.reads ∙ no_digit_next _ c.loop.v c.in-Some.ensures.cases.0 c.in_default-digit.ensures

pub loop-preserved : goal.loop-preserved
loop-preserved c =
    let at = c.loop in
    record {
      reads = at.invariant.reads ∙ digit_next _ at.v c.in-Some.ensures.cases.0 _ c.in-Some-digit.ensures (omega arith);
      short = room_step at.counter at.v _ at.invariant.short c.in-Some-digit.ensures.2;
    }

-- five digits are read
pub returns : goal.returns
returns c = c.loop.invariant.reads ∙ more_end _ _ _ (omega arith)
