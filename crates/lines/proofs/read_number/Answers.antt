-- `lines::read_number` meets its contract: nothing, no digit, a nought or another digit comes first, and each is a case of `read_number`.
use Rattle.std.proofs.Common.{ℕ, ◌∷◌, ap, ◌∙◌, sym, arith}
use Rattle.rules.specs.Text.{more_digits, read_number}
use Rattle.rules.proofs.ReadSteps.{digit_range, number_none, number_wrong, number_zero, number_more}
use Rattle.lines.proofs.read_number.Goals as goal

-- no byte
pub returns-in_err-b : goal.returns-in_err-b
returns-in_err-b c = rw c.from_residual.ensures (number_none _ c.in_err-b.ensures.cases)

-- no digit
pub returns-in_err-first : goal.returns-in_err-first
returns-in_err-first c =
    let first = c.in_ok-b in
    rw c.from_residual-in_err-first.ensures (ap read_number first.ensures.cases.0 ∙ number_wrong (first.b.now ∷ first.after.now) (omega arith) c.in_err-first.ensures)

-- a nought stands alone
pub returns-then-first-eq0 : goal.returns-then-first-eq0
returns-then-first-eq0 c =
    let first = c.in_ok-b in
    let value = c.in_ok-first.ensures in
    ap read_number first.ensures.cases.0
    ∙ number_zero (first.b.now ∷ first.after.now) (omega arith) (omega (arith, value.1, digit_range first.b.now value.0))

-- another digit, and at most four more
pub returns : goal.returns
returns c =
    let first = c.in_ok-b in
    let value = c.in_ok-first.ensures in
    ap read_number first.ensures.cases.0
    ∙ number_more (first.b.now ∷ first.after.now) (omega arith) value.0 (omega (arith, value.1))
    ∙ ap (λ (v : ℕ). more_digits 4 v first.after.now) (sym value.1)
    ∙ c.more_digits.ensures
