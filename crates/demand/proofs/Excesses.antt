-- By how much a length fails: from what is due and waited for, and what it says of the length, whose excess is 1 or more where it fails.
use mathlib.Core.Path.{◌≡◌, refl, ◌∙◌}
use mathlib.Core.Logic.{⊎_elim, inr}
use Prim.Native.Nat.{ℕ, ◌+◌, ◌-◌, ◌≤◌, ◌<◌}
use native.Mathlib.Omega.{arith}
use mathlib.Core.List.{List}
use mathlib.Core.Bool.{Bool, true, false}
use borrow.Author.Tests.{ltb-true, leb-true}
use Rattle.rules.specs.declared.Task.{Task}
use Rattle.rules.specs.Demand.{total_due, longest_wait, fails, excess}
use Rattle.rules.proofs.Booleans.{lt_or_ge}
use Rattle.rules.proofs.Verdicts.{fails_when, fails_not}
use Rattle.rules.proofs.Excess.{excess_is, excess_some, passes_when}
use Rattle.demand.specs.Parts.{fails_by}

module _ (L : ℕ) (ts : List Task) where
  by_excess : fails L ts ≡ true → fails_by L ts ≡ excess L ts
  unfolding fails_by
  by_excess e = rw e

  by_nought : fails L ts ≡ false → fails_by L ts ≡ 0
  unfolding fails_by
  by_nought e = rw e

  -- by what is due
  pub nothing_due : total_due L ts < 1 → fails_by L ts ≡ 0
  nothing_due h = by_nought (fails_not ts L h)

  pub something_due : 1 ≤ total_due L ts → fails_by L ts ≡ total_due L ts + longest_wait L ts - L
  something_due h =
      ⊎_elim (λ a. by_excess ((fails_when ts L).1 (h, ltb-true _ _ a)) ∙ excess_is ts L)
      (λ a. let most : total_due L ts + longest_wait L ts ≤ L = leb-true _ _ a in omega (arith, by_nought ((passes_when ts L).1 (inr most))))
      (lt_or_ge L (total_due L ts + longest_wait L ts))

  -- the length, by what was found
  module _ (over : ℕ) (found : over ≡ fails_by L ts) where
    pub fails_above_0 : 0 < over → (fails L ts ≡ true) × (over ≡ excess L ts)
    fails_above_0 h = go (fails L ts) refl
      where
        go : (b : Bool) → fails L ts ≡ b → (b ≡ true) × (over ≡ excess L ts)
        go true e = (refl, found ∙ by_excess e)
        go false e = absurd (omega (arith, by_nought e))

    pub passes_at_0 : over ≤ 0 → fails L ts ≡ false
    passes_at_0 h = go (fails L ts) refl
      where
        go : (b : Bool) → fails L ts ≡ b → b ≡ false
        go true e = absurd (omega (arith, by_excess e, excess_some ts L e))
        go false e = refl
