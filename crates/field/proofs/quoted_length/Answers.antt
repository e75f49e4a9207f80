-- `field::quoted_length` meets its contract: the loop ends at a quote that none doubles, which closes the field, or where no byte is left.
use Rattle.std.proofs.Common.{arith}
use Rattle.field.proofs.Fields.{all_left, left_open, left_other, left_last, left_closed, left_twice}
use Rattle.field.proofs.quoted_length.Goals as goal

pub loop-b-init : goal.loop-b-init
loop-b-init c = all_left _

-- a quote is the last byte
pub returns-in_default-split_first : goal.returns-in_default-split_first
returns-in_default-split_first c = left_last _ c.loop-b.invariant c.in-Some.ensures.cases.0 c.if-b-eq34.true c.in_default-split_first.ensures.cases

-- another byte follows a quote
pub returns-then-next-b : goal.returns-then-next-b
returns-then-next-b c =
    left_closed _ c.loop-b.invariant c.in-Some.ensures.cases.0 c.if-b-eq34.true c.in-Some-split_first.ensures.cases.0 (λ x. omega (arith, x, c.if-b-eq34.true, c.if-next-b.true))

-- two quotes are passed
pub loop-b-preserved-else-next-b : goal.loop-b-preserved-else-next-b
loop-b-preserved-else-next-b c =
    left_twice _ c.loop-b.invariant c.in-Some.ensures.cases.0 c.if-b-eq34.true c.in-Some-split_first.ensures.cases.0 (omega (arith, c.if-b-eq34.true, c.if-next-b.false))

-- another byte is
pub loop-b-preserved : goal.loop-b-preserved
loop-b-preserved c = left_other _ c.loop-b.invariant c.in-Some.ensures.cases.0 c.if-b-eq34.false

-- no byte is left
pub returns : goal.returns
returns c = left_open _ c.loop-b.invariant c.in_default.ensures.cases
