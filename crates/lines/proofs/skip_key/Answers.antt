-- `lines::skip_key` meets its contract: each turn is a step of `after_key`.
use Rattle.std.proofs.Common.{◌∙◌, arith}
use Rattle.rules.proofs.ReadSteps.{key_end}
use Rattle.lines.proofs.Searches.{key_none, key_other, key_next}
use Rattle.lines.proofs.skip_key.Goals as goal

-- no byte is left
pub returns-in_err-b : goal.returns-in_err-b
returns-in_err-b c = rw c.from_residual.ensures (c.loop-due.invariant ∙ key_none _ _ c.loop-due-test.true _ c.in_err-b.ensures.cases)

-- another byte than the key's
pub returns-then-b-due : goal.returns-then-b-due
returns-then-b-due c = c.loop-due.invariant ∙ key_other _ _ c.loop-due-test.true c.in_ok-b.ensures.cases.0 c.if-b-due.true

pub loop-due-preserved : goal.loop-due-preserved
loop-due-preserved c = c.loop-due.invariant ∙ key_next _ _ c.loop-due-test.true c.in_ok-b.ensures.cases.0 c.if-b-due.false

-- the key is passed
pub returns : goal.returns
returns c = c.loop-due.invariant ∙ key_end c.args.key.now _ _ (omega arith)
