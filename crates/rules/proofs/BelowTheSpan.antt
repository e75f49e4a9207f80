-- The least length that fails lies below every span that closes: no length from there on has to be looked at.
use mathlib.Core.Path.{◌≡◌, sym, ◌∙◌}
use mathlib.Core.Logic.{◌⊎◌, inl, inr}
use Prim.Native.Nat.{ℕ, ◌≤◌, ◌<◌}
use native.Mathlib.Omega.{arith}
use mathlib.Core.List.{List}
use mathlib.Core.Bool.{true, false}
use borrow.Author.Tests.{leb-true, ltb-true}
use lib.Dec.{leb, ltb}
use Rattle.rules.specs.Task.{AllSound}
use Rattle.rules.specs.declared.Task.{Task}
use Rattle.rules.specs.Jobs.{named}
use Rattle.rules.specs.Demand.{fails, closes}
use Rattle.rules.proofs.Booleans.{true_is_not_false, lt_or_ge}
use Rattle.rules.proofs.Meets.{meets}
use Rattle.rules.proofs.Misses.{misses}

-- else its pattern would be late and on time
pub least_below : (ts : List Task) → AllSound ts → (σ : ℕ) → 1 ≤ σ → closes σ ts ≡ true
    → (L : ℕ) → fails L ts ≡ true → ((M : ℕ) → 1 ≤ M → M < L → fails M ts ≡ false) → L < σ
least_below ts sound σ pos e L f least = go (lt_or_ge L σ)
  where
    go : (ltb L σ ≡ true) ⊎ (leb σ L ≡ true) → L < σ
    go (inl h) = ltb-true _ _ h
    go (inr h) =
        let le : σ ≤ L = leb-true _ _ h in
        let x = misses ts sound L f in
        let on_time = meets ts sound σ pos e (λ M p q. least M p (omega arith)) (named L ts) x.0 x.2.0 x.2.1 in
        true_is_not_false (sym x.2.2 ∙ on_time)
