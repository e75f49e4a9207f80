-- Which jobs a train has, by the tests that the code makes: job q comes exactly if its release is before the end, or its deadline within the length.
use mathlib.Core.Path.{◌≡◌, subst}
use Prim.Native.Nat.{ℕ, ◌+◌, ◌*◌, ◌^◌, ◌≤◌, ◌<◌}
use native.Mathlib.Nat.{mul-le-mul}
use native.Mathlib.Omega.{arith}
use Rattle.rules.specs.Task.{Sound}
use Rattle.rules.specs.Jobs.{Train}
use Rattle.rules.specs.declared.Task.{Task}
use Rattle.rules.proofs.Booleans.{impossible, split}
use Rattle.rules.proofs.Members.{count_before_law, count_within_law}
use Rattle.std.specs.Prelude.{Some, None}
use Rattle.trains.specs.Releases.{released_before, due_within, Coming, Comes}

module _ (x : Train) (T q : ℕ) where
  -- the job comes
  pub said_at : (r : ℕ) → Coming x T q r → Comes x T q (Some r)
  said_at r k =
      record {
        at = λ s e. let same : r ≡ s = cc in subst (λ (y : ℕ). Coming x T q y) same k;
        never = λ e. impossible cc;
      }

  -- there is none
  pub said_never : x.count ≤ q → Comes x T q None
  said_never h = record { at = λ s e. impossible cc; never = λ e. h }

-- a number of periods is no less than the number
periods : (q t : ℕ) → 1 ≤ t → q ≤ q * t
periods q t h = omega (arith, mul-le-mul {n₁ = q} {m₁ = 1} {n₂ = q} {m₂ = t} (omega arith) h)

module _ (τ : Task) (sound : Sound τ) (q : ℕ) where
  module _ (Z : ℕ) where
    pub before_at : (r : ℕ) → r ≡ τ.R + q * τ.T → Z < 2 ^ 32 → r < Z → Comes (released_before Z τ) τ.T q (Some r)
    before_at r e small h =
        said_at (released_before Z τ) τ.T q r
        (record {
          live = (count_before_law Z q τ sound.t_pos).1 (omega arith);
          when = e;
          few = omega (arith, periods q τ.T sound.t_pos);
          early = omega arith;
        })

    pub before_never : Z ≤ τ.R + q * τ.T → Comes (released_before Z τ) τ.T q None
    before_never h =
        said_never (released_before Z τ) τ.T q (split (released_before Z τ).count q (λ g. g) (λ g. absurd (omega (arith, (count_before_law Z q τ sound.t_pos).0 g))))

  module _ (first L : ℕ) where
    pub within_at : (r : ℕ) → r ≡ first + q * τ.T → first < 2 ^ 32 → L < 2 ^ 32 → τ.D + q * τ.T ≤ L → Comes (due_within first L τ) τ.T q (Some r)
    within_at r e small_first small h =
        said_at (due_within first L τ) τ.T q r
        (record {
          live = (count_within_law L q τ sound.t_pos).1 (omega arith);
          when = e;
          few = omega (arith, periods q τ.T sound.t_pos, sound.d_pos);
          early = omega arith;
        })

    pub within_never : L < τ.D + q * τ.T → Comes (due_within first L τ) τ.T q None
    within_never h =
        said_never (due_within first L τ) τ.T q (split (due_within first L τ).count q (λ g. g) (λ g. absurd (omega (arith, (count_within_law L q τ sound.t_pos).0 g))))
