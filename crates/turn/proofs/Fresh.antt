-- Before the first row: counters that all stand at 0 stand for the jobs of the plan.
use mathlib.Core.Path.{◌≡◌, sym, ap, ap₂, ◌∙◌}
use Prim.Native.Nat.{ℕ, zero, suc, ◌+◌, ◌-◌, ◌≤◌, ◌<◌}
use native.Mathlib.Nat.{zero-mul}
use native.Mathlib.Omega.{arith}
use mathlib.Core.List.{List, ◌++◌}
use lib.ListN.{get_or, get_or-replicate}
use Rattle.rules.specs.Numbers.{task_most}
use Rattle.rules.specs.Task.{tasks_of}
use Rattle.rules.specs.Dispatch.{Job}
use Rattle.rules.specs.Jobs.{train, trains, plan_train, planned}
use Rattle.rules.specs.Table.{task_in, tasks_from, Valid}
use Rattle.rules.specs.declared.Plan.{Plan}
use Rattle.rules.proofs.Trains.{train_of}
use Rattle.rules.proofs.Planned.{planned_table, trains_none, trains_first}
use Rattle.turn.specs.Counters.{train_at, release_at, jobs_at, rest_from, none_started}

module _ (w : List ℕ) (p : Plan) where
  fresh : (k : ℕ) → k < task_most → jobs_at w p k (get_or none_started k 0) ≡ train_of (plan_train p) k (task_in w k)
  fresh k h =
      let a : (train_at w p k).count - 0 ≡ (train_at w p k).count = omega arith in
      let b : release_at w p k 0 ≡ (train_at w p k).first = omega (arith, zero-mul (task_in w k).T) in
      ap (jobs_at w p k) (get_or-replicate task_most k 0 0 h) ∙ ap₂ (λ (n r : ℕ). train n 0 r k (task_in w k)) a b

  fresh_from : (n k : ℕ) → k + n ≤ task_most → rest_from w p none_started n k ≡ trains (plan_train p) k (tasks_from w n k)
  unfolding rest_from
  fresh_from zero k h = sym (trains_none (plan_train p) w k)
  fresh_from (suc n) k h =
      ap₂ (λ (a b : List Job). a ++ b) (fresh k (omega arith)) (fresh_from n (suc k) (omega arith)) ∙ sym (trains_first (plan_train p) w n k)

  pub fresh_jobs : (m : ℕ) → Valid w m → rest_from w p none_started m 0 ≡ planned p (tasks_of w)
  fresh_jobs m ok = fresh_from m 0 (omega (arith, ok.most_tasks)) ∙ sym (planned_table p w m ok.words)
