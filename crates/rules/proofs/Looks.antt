-- The two looks from 1 to H, for the first length that fails and for the span: where they stop; and the verdict by what they find.
use mathlib.Core.Path.{◌≡◌}
use mathlib.Core.Logic.{⊎_elim}
use Prim.Native.Nat.{ℕ, ◌≤◌, ◌<◌}
use native.Mathlib.Omega.{arith}
use mathlib.Core.List.{List}
use mathlib.Core.Bool.{true}
use borrow.Author.Tests.{ltb-true, leb-true, lt-leb}
use Rattle.rules.specs.Numbers.{horizon}
use Rattle.rules.specs.declared.Task.{Task}
use Rattle.rules.specs.Demand.{fails, excess, work, closes, first_fail, span, blocker, verdict}
use Rattle.rules.specs.declared.Verdict.{Verdict}
use Rattle.rules.proofs.Booleans.{lt_or_ge}
use Rattle.rules.proofs.Search.{NonePasses}
use Rattle.rules.proofs.Verdicts.{first_when, none_when, closes_when, work_grows}
use Rattle.std.specs.Prelude.{Option, Some, None}

module _ (ts : List Task) where
  -- the look for the first length that fails stops at L, before which none fails: there, or nowhere where L is above H
  module _ (L : ℕ) (before : NonePasses (λ K. fails K ts) 1 L) where
    pub first_fail_at : 1 ≤ L → L ≤ horizon → fails L ts ≡ true → first_fail ts ≡ Some L
    unfolding first_fail
    first_fail_at a b q = (first_when (λ K. fails K ts) L).1 (record { low = a; high = b; passes = q; none_before = before })

    pub first_fail_none : horizon < L → first_fail ts ≡ None
    unfolding first_fail
    first_fail_none h = (none_when (λ K. fails K ts)).1 (λ K a b. before K a (omega arith))

  -- the look for the span is at t, before which none closes
  module _ (t : ℕ) (before : NonePasses (λ s. closes s ts) 1 t) where
    pub span_at : 1 ≤ t → t ≤ horizon → work t ts ≤ t → span ts ≡ Some t
    unfolding span
    span_at a b q = (first_when (λ s. closes s ts) t).1 (record { low = a; high = b; passes = (closes_when ts t).1 q; none_before = before })

    -- no t below the work of one that does not close can close: the work grows with t
    pub none_closes : (u : ℕ) → u ≤ work t ts → NonePasses (λ s. closes s ts) 1 u
    unfolding closes
    none_closes u h y a b =
        ⊎_elim (λ l. before y a (ltb-true y t l)) (λ l. lt-leb (work y ts) y (omega (arith, work_grows ts t y (leb-true t y l)))) (lt_or_ge y t)

    pub span_none : horizon < work t ts → span ts ≡ None
    unfolding span
    span_none h = (none_when (λ s. closes s ts)).1 (λ s a b. none_closes (work t ts) (omega arith) s a (omega arith))

  -- the verdict by what the looks find
  pub verdict_misses : (L : ℕ) (b : Option ℕ) (over : ℕ) → first_fail ts ≡ Some L → b ≡ blocker L ts → over ≡ excess L ts
      → verdict ts ≡ Verdict.Misses L b over
  unfolding verdict
  verdict_misses L b over e f g = rw (e, f, g)

  pub verdict_meets : (σ : ℕ) → first_fail ts ≡ None → span ts ≡ Some σ → verdict ts ≡ Verdict.Meets σ
  unfolding verdict
  verdict_meets σ e f = rw (e, f)

  pub verdict_too_far : first_fail ts ≡ None → span ts ≡ None → verdict ts ≡ Verdict.TooFar
  unfolding verdict
  verdict_too_far e f = rw (e, f)
