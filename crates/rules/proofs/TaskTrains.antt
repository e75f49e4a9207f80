-- A task's train by cases: how many jobs before an end tick and within a length, and which train in a named pattern.
use mathlib.Core.Path.{◌≡◌, refl}
use Prim.Native.Nat.{ℕ, ◌+◌, ◌-◌, ◌*◌, ◌/◌, ◌≤◌, ◌<◌}
use native.Mathlib.Nat.{div-le_self}
use native.Mathlib.Omega.{arith}
use borrow.Author.Tests.{le-leb, lt-leb, lt-ltb, le-ltb, eq-eqb, ne_eqb}
use Rattle.rules.specs.declared.Task.{Task}
use Rattle.rules.specs.Demand.{count_within, due}
use Rattle.rules.specs.Jobs.{count_before, concrete_train, named_train}
use Rattle.std.specs.Prelude.{Option, Some, None}

module _ (x : ℕ) (τ : Task) where
  pub within_some : τ.D ≤ x → count_within x τ ≡ 1 + (x - τ.D) / τ.T
  unfolding count_within
  within_some h = rw (le-leb τ.D x h)

  pub within_none : x < τ.D → count_within x τ ≡ 0
  unfolding count_within
  within_none h = rw (lt-leb τ.D x h)

  -- what is due, by that count
  pub due_counted : due x τ ≡ τ.C * count_within x τ
  unfolding due
  due_counted = refl

  pub before_some : τ.R < x → count_before x τ ≡ 1 + (x - 1 - τ.R) / τ.T
  unfolding count_before
  before_some h = rw (lt-ltb τ.R x h)

  pub before_none : x ≤ τ.R → count_before x τ ≡ 0
  unfolding count_before
  before_none h = rw (le-ltb τ.R x h)

-- one and a whole part of what is below x is at most x
pub one_more : (x y t : ℕ) → y < x → 1 + y / t ≤ x
one_more x y t h = omega (arith, div-le_self y t)

-- the train of task k in the concrete schedule
pub concrete_train_law : (z k : ℕ) (τ : Task) → record { first = τ.R; count = count_before z τ } ≡ concrete_train z k τ
unfolding concrete_train
concrete_train_law z k τ = refl

-- the train of task k where nobody holds the tile, that of the blocker, and that of another task
module _ (L k : ℕ) (τ : Task) where
  pub nobody_train : (b : Option ℕ) → b ≡ None → named_train L b k τ ≡ record { first = 0; count = count_within L τ }
  unfolding named_train
  nobody_train b e = rw e

  pub blocker_train : (b : Option ℕ) (i : ℕ) → b ≡ Some i → k ≡ i → named_train L b k τ ≡ record { first = 0; count = 1 }
  unfolding named_train
  blocker_train b i e h = rw (e, eq-eqb k i h)

  pub other_train : (b : Option ℕ) (i : ℕ) → b ≡ Some i → (k ≡ i → ⊥) → named_train L b k τ ≡ record { first = 1; count = count_within L τ }
  unfolding named_train
  other_train b i e h = rw (e, ne_eqb k i h)
