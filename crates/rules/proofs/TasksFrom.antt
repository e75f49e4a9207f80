-- The tasks from a number on: what a walk through the list of tasks has still before it.
use mathlib.Core.Path.{◌≡◌, subst}
use Prim.Native.Nat.{ℕ, suc, ◌+◌, ◌<◌}
use native.Mathlib.Nat.{add-zero, zero-add}
use native.Mathlib.Omega.{arith}
use mathlib.Core.List.{List, ◌∷◌}
use lib.ListN.{length}
use Rattle.rules.specs.Task.{task_at}
use Rattle.rules.specs.declared.Task.{Task}

-- us are the tasks of ts from number k on
pub record Rest (ts : List Task) (k : ℕ) (us : List Task) : Type 0 where
  pub ends : k + length us ≡ length ts
  pub at : (i : ℕ) → i < length us → task_at us i ≡ task_at ts (k + i)

pub rest_all : (ts : List Task) → Rest ts 0 ts
rest_all ts = record { ends = omega arith; at = λ i h. rw zero-add }

-- the first of them is task k
pub rest_here : (ts : List Task) (k : ℕ) (τ : Task) (us : List Task) → Rest ts k (τ ∷ us) → τ ≡ task_at ts k
unfolding task_at
rest_here ts k τ us R = rw add-zero at (R.at 0 (omega arith))

pub rest_next : (ts : List Task) (k : ℕ) (τ : Task) (us : List Task) → Rest ts k (τ ∷ us) → Rest ts (suc k) us
unfolding task_at
rest_next ts k τ us R =
    record {
      ends = omega arith;
      at = λ i h. let s : k + suc i ≡ suc k + i = omega arith in subst (λ (n : ℕ). task_at us i ≡ task_at ts n) s (R.at (suc i) (omega arith));
    }
