-- What is left stops at a byte that is no digit and where the value is above the greatest, after which no digit makes the word right again.
use Rattle.std.proofs.Common.{arith, ◌∙◌}
use Rattle.std.proofs.lemmas.Bool.Decides.{nat_tests}
use Rattle.word.proofs.Walk.{no_digit, a_digit_read, at_none, at_first, at_end, at_other, at_great, at_next}
use Rattle.word.proofs.number_in.Goals as goal

pub returns-then-is_empty : goal.returns-then-is_empty
returns-then-is_empty c = at_none _ _ (grind (arith, nat_tests))

pub loop-b-init : goal.loop-b-init
loop-b-init c = at_first _ _ (grind (arith, nat_tests))

pub returns-in_err-digit : goal.returns-in_err-digit
returns-in_err-digit c = c.from_residual.ensures ∙ at_other _ _ c.loop-b.invariant c.loop-b-test.true (no_digit _ c.from.ensures c.in_err-digit.ensures.cases)

pub returns-then-value-most : goal.returns-then-value-most
returns-then-value-most c =
    let d = a_digit_read _ c.from.ensures c.in_ok-digit.ensures.value c.in_ok-digit.ensures.cases in
    at_great _ _ c.loop-b.invariant c.loop-b-test.true d.0 (omega (arith, d.1))

pub loop-b-preserved : goal.loop-b-preserved
loop-b-preserved c =
    let d = a_digit_read _ c.from.ensures c.in_ok-digit.ensures.value c.in_ok-digit.ensures.cases in
    at_next _ _ c.loop-b.invariant c.loop-b-test.true d.0 (omega (arith, d.1)) (omega arith)

pub returns : goal.returns
returns c = at_end _ _ c.loop-b.invariant (omega arith)
