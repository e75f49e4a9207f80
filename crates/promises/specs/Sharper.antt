-- What is true beyond the demands, of tasks with C, D and T of 1 or more.
use Rattle.std.specs.Prelude.{◌≡◌, ℕ, ◌-◌, ◌≤◌, ◌<◌, List, true, false}
use Rattle.rules.specs.declared.Task.{Task}
use Rattle.rules.specs.Dispatch.{Job}
use Rattle.rules.specs.Jobs.{named}
use Rattle.rules.specs.Legal.{Legal}
use Rattle.rules.specs.Demand.{total_due, fails, closes}
use Rattle.promises.specs.Tables.{Least}
use Rattle.promises.specs.Demands.{InTime, MakesLate}

-- the facts that later work leans on
pub record Sharper (ts : List Task) : Type 0 where
  -- a span that closes, and no length below it that fails, are enough for a "meets"
  pub below_the_span : (σ : ℕ) → 1 ≤ σ → closes σ ts ≡ true → ((L : ℕ) → 1 ≤ L → L < σ → fails L ts ≡ false)
      → (js : List Job) → Legal ts js → InTime js
  -- any length that fails, not only the least, names a pattern that makes a job late
  pub any_length : (L : ℕ) → fails L ts ≡ true → MakesLate ts (named L ts)
  -- the least length that fails is below every span that closes
  pub least_below : (σ : ℕ) → 1 ≤ σ → closes σ ts ≡ true
      → (L : ℕ) → fails L ts ≡ true → ((M : ℕ) → 1 ≤ M → M < L → fails M ts ≡ false) → L < σ
  -- where Due does not grow from L − 1 to L, L is not the least that fails
  pub no_growth : (L : ℕ) → total_due L ts ≡ total_due (L - 1) ts → Least (λ K. fails K ts) L → ⊥
