-- The sum that counts the jobs, task by task.
use mathlib.Core.Path.{◌≡◌, sym, ap, ◌∙◌}
use Prim.Native.Nat.{ℕ, zero, suc, ◌+◌, ◌*◌, ◌^◌, ◌≤◌, ◌<◌}
use native.Mathlib.Omega.{arith}
use mathlib.Core.List.{List}
use lib.ListN.{length}
use Rattle.std.specs.List.{sum_by, range_with_len}
use Rattle.std.proofs.lemmas.List.Sums.{sum_by-cons}
use Rattle.rules.specs.Task.{tasks_of}
use Rattle.rules.specs.Table.{task_in, tasks_from, Valid}
use Rattle.rules.specs.Jobs.{trains, plan_train, planned}
use Rattle.rules.specs.declared.Plan.{Plan}
use Rattle.rules.proofs.Planned.{planned_table, trains_none, trains_count}

module _ (p : Plan) (w : List ℕ) where
  -- how many jobs a task has
  abbrev pub jobs_of : ℕ → ℕ
  jobs_of i = (plan_train p i (task_in w i)).count

  -- those of n tasks from number i on
  counted_from : (n i : ℕ) → sum_by jobs_of (range_with_len i n) ≡ length (trains (plan_train p) i (tasks_from w n i))
  counted_from zero i = ap length (sym (trains_none (plan_train p) w i))
  counted_from (suc n) i =
      let s : suc i ≡ i + 1 = omega arith in
      let later = ap (λ (k : ℕ). length (trains (plan_train p) k (tasks_from w n k))) s in
      omega (arith, sum_by-cons jobs_of i (range_with_len (i + 1) n), counted_from n (i + 1), trains_count (plan_train p) w n i, later)

  -- those of all tasks
  pub counted : (m : ℕ) → Valid w m → sum_by jobs_of (range_with_len 0 m) ≡ length (planned p (tasks_of w))
  counted m ok = counted_from m 0 ∙ ap length (sym (planned_table p w m ok.words))

-- a sum of words
pub sum_small : (g : ℕ → ℕ) → ((i : ℕ) → g i < 2 ^ 32) → (n i : ℕ) → sum_by g (range_with_len i n) ≤ 2 ^ 32 * n
sum_small g h zero i = omega arith
sum_small g h (suc n) i = omega (arith, sum_by-cons g i (range_with_len (i + 1) n), sum_small g h n (i + 1), h i)
