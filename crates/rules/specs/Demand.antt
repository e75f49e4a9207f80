-- The verdict over all arrivals. Document 01, "The verdict over all arrivals"; document 02, 3/14.
use Rattle.std.specs.Prelude.{ℕ, suc, ◌+◌, ◌-◌, ◌*◌, ◌/◌, max, ◌≤◌, ◌<◌, List, [], ◌∷◌, Bool, ◌&&◌, leb, ltb, eqb, length, if◌then◌else◌, Option, Some, None}
use Rattle.rules.specs.Choice.{least}
use Rattle.rules.specs.Numbers.{horizon}
use Rattle.rules.specs.Task.{task_at}
use Rattle.rules.specs.declared.Task.{Task}
use Rattle.rules.specs.declared.Verdict.{Verdict}

-- how many jobs a task has due within a length: 1 + the whole part of (L − D) / T where D is at most L
unfoldable pub count_within : ℕ → Task → ℕ
count_within L τ = if leb τ.D L then 1 + (L - τ.D) / τ.T else 0

-- what one task has due within a length: C × that
unfoldable pub due : ℕ → Task → ℕ
due L τ = τ.C * count_within L τ

-- Due(L): the sum over the tasks
unfoldable pub total_due : ℕ → List Task → ℕ
total_due L [] = 0
total_due L (τ ∷ ts) = due L τ + total_due L ts

-- what one task can make the others wait: C − 1 where D is above L
unfoldable pub wait : ℕ → Task → ℕ
wait L τ = if ltb L τ.D then τ.C - 1 else 0

-- Wait(L): the greatest over the tasks, 0 if there is none
unfoldable pub longest_wait : ℕ → List Task → ℕ
longest_wait L [] = 0
longest_wait L (τ ∷ ts) = max (wait L τ) (longest_wait L ts)

-- L fails: Due(L) is at least 1 and Due(L) + Wait(L) is above L
unfoldable pub fails : ℕ → List Task → Bool
fails L ts = leb 1 (total_due L ts) && ltb L (total_due L ts + longest_wait L ts)

-- the excess: Due(L) + Wait(L) − L
unfoldable pub excess : ℕ → List Task → ℕ
excess L ts = total_due L ts + longest_wait L ts - L

-- t / T rounded up
unfoldable pub ceiling : ℕ → ℕ → ℕ
ceiling t T = (t + T - 1) / T

-- the sum over all tasks of C × (t / T rounded up)
unfoldable pub work : ℕ → List Task → ℕ
work t [] = 0
work t (τ ∷ ts) = τ.C * ceiling t τ.T + work t ts

-- t closes: that sum is at most t
unfoldable pub closes : ℕ → List Task → Bool
closes t ts = leb (work t ts) t

-- the least L from 1 to H that fails
unfoldable pub first_fail : List Task → Option ℕ
first_fail ts = least (λ L. fails L ts) horizon 1

-- the span, the least t of 1 or more that closes, where it exists and is at most H
unfoldable pub span : List Task → Option ℕ
span ts = least (λ t. closes t ts) horizon 1

-- the number of the first task, from k on, with D above L and C − 1 equal to W
unfoldable pub first_waiting : ℕ → ℕ → ℕ → List Task → ℕ
first_waiting W L k [] = k
first_waiting W L k (τ ∷ ts) = if ltb L τ.D && eqb (τ.C - 1) W then k else first_waiting W L (suc k) ts

-- the blocker: the lowest-numbered task with the greatest C among those with D above L, if Wait(L) is above 0
unfoldable pub blocker : ℕ → List Task → Option ℕ
blocker L ts = if ltb 0 (longest_wait L ts) then Some (first_waiting (longest_wait L ts) L 0 ts) else None

-- the lowest-numbered task with the greatest C among those with D above L, in the paper's words
pub record Blocks (L : ℕ) (ts : List Task) (b : ℕ) : Type 0 where
  pub known : b < length ts
  pub above : L < (task_at ts b).D
  pub greatest : (k : ℕ) → k < length ts → L < (task_at ts k).D → (task_at ts k).C ≤ (task_at ts b).C
  pub lowest : (k : ℕ) → k < b → L < (task_at ts k).D → (task_at ts k).C < (task_at ts b).C

-- misses with the least L that fails, its blocker and its excess; else meets with the span; else too far
abbrev pub judge : Option ℕ → Option ℕ → List Task → Verdict
judge (Some L) σ ts = Verdict.Misses L (blocker L ts) (excess L ts)
judge None (Some σ) ts = Verdict.Meets σ
judge None None ts = Verdict.TooFar

-- the verdict
unfoldable pub verdict : List Task → Verdict
verdict ts = judge (first_fail ts) (span ts) ts
