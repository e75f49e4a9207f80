-- What a walk over a table's tasks from the first to the last gives, and a chain over their numbers; and that what is due and waited for fits.
use mathlib.Core.Path.{◌≡◌, refl, sym, ap}
use mathlib.Core.Logic.{⊎_elim}
use Prim.Native.Nat.{ℕ, zero, suc, ◌+◌, ◌-◌, ◌*◌, ◌^◌, ◌≤◌, ◌<◌}
use native.Mathlib.Nat.{div-le_self}
use native.Mathlib.Omega.{arith}
use mathlib.Core.List.{List}
use borrow.Author.Tests.{ltb-true, leb-true}
use Rattle.std.specs.List.{sum_by, range_with_len}
use Rattle.std.proofs.lemmas.List.Sums.{sum_by-cons}
use Rattle.rules.specs.Numbers.{word_most}
use Rattle.rules.specs.Task.{tasks_of}
use Rattle.rules.specs.declared.Task.{Task}
use Rattle.rules.specs.Table.{task_in, task_count, ValidTable}
use Rattle.rules.specs.Demand.{count_within, due, total_due, wait, longest_wait}
use Rattle.rules.proofs.Booleans.{lt_or_ge}
use Rattle.rules.proofs.Tables.{task_c_most}
use Rattle.rules.proofs.TaskTrains.{within_some, within_none, due_counted}
use Rattle.rules.proofs.TasksLeft.{tasks_left, left_all, Sums, longest_wait_sums, total_due_sums, total_none, total_more, total_all}
use Rattle.rules.proofs.Verdicts.{wait_in, wait_out}
use Rattle.demand.proofs.Bounds.{times_small}

-- a total on the way from the first task to the last: that of the tasks from number i on, by that of those after it
module _ {total : List Task → ℕ} {part : Task → ℕ} {join : ℕ → ℕ → ℕ} (S : Sums total part join) (w : List ℕ) where
  pub at_end : (i : ℕ) → i + 0 ≡ task_count w → 0 ≡ total (tasks_left w i)
  at_end i e = let all : i ≡ task_count w = omega arith in rw all (total_none S w)

  pub at_one : (i : ℕ) → i < task_count w → total (tasks_left w i) ≡ join (total (tasks_left w (i + 1))) (part (task_in w i))
  at_one i h =
      let here : i + 1 - 1 ≡ i = omega arith in
      sym (rw here at (total_more S w (i + 1) (omega arith) (omega arith) (task_in w (i + 1 - 1)) refl _ _ refl refl))

-- a sum
module _ {total : List Task → ℕ} {part : Task → ℕ} (S : Sums total part (λ s r. s + r)) (w : List ℕ) where
  summed_left : (n i : ℕ) → i + n ≡ task_count w → sum_by (λ k. part (task_in w k)) (range_with_len i n) ≡ total (tasks_left w i)
  summed_left zero i e = at_end S w i e
  summed_left (suc n) i e =
      omega (arith, summed_left n (i + 1) (omega arith), sum_by-cons (λ k. part (task_in w k)) i (range_with_len (i + 1) n), at_one S w i (omega arith))

  pub summed : ValidTable w → sum_by (λ k. part (task_in w k)) (range_with_len 0 (task_count w)) ≡ total (tasks_of w)
  summed v = total_all S w v 0 (omega arith) _ (summed_left (task_count w) 0 (omega arith))

-- what is due fits
due_small : (w : List ℕ) → ValidTable w → (L i : ℕ) → L < 2 ^ 32 → i < task_count w → due L (task_in w i) ≤ 2 ^ 49
due_small w v L i small h =
    let τ = task_in w i in
    let few : count_within L τ ≤ 2 ^ 33 =
    ⊎_elim (λ a. omega (arith, within_none L τ (ltb-true _ _ a))) (λ a. omega (arith, within_some L τ (leb-true _ _ a), div-le_self (L - τ.D) τ.T))
    (lt_or_ge L τ.D)
    in
    omega (arith, due_counted L τ, times_small τ.C (count_within L τ) (task_c_most w (task_count w) i v h) few)

pub total_due_small : (w : List ℕ) → ValidTable w → (L : ℕ) → L < 2 ^ 32 → total_due L (tasks_of w) ≤ 2 ^ 55
total_due_small w v L small = omega (arith, left (task_count w) 0 (omega arith), ap (total_due L) (left_all w v 0 (omega arith)), v.most_tasks)
  where
    left : (n i : ℕ) → i + n ≡ task_count w → total_due L (tasks_left w i) ≤ 2 ^ 49 * n
    left zero i e = omega (arith, at_end (total_due_sums L) w i e)
    left (suc n) i e = omega (arith, left n (i + 1) (omega arith), at_one (total_due_sums L) w i (omega arith), due_small w v L i small (omega arith))

-- what is waited for fits
wait_small : (w : List ℕ) → ValidTable w → (L i : ℕ) → i < task_count w → wait L (task_in w i) ≤ word_most
wait_small w v L i h =
    let τ = task_in w i in
    let c_most = task_c_most w (task_count w) i v h in
    ⊎_elim (λ a. omega (arith, c_most, wait_in L τ (ltb-true _ _ a))) (λ a. omega (arith, wait_out L τ (leb-true _ _ a))) (lt_or_ge L τ.D)

pub longest_wait_small : (w : List ℕ) → ValidTable w → (L : ℕ) → longest_wait L (tasks_of w) ≤ word_most
longest_wait_small w v L = omega (arith, left (task_count w) 0 (omega arith), ap (longest_wait L) (left_all w v 0 (omega arith)))
  where
    left : (n i : ℕ) → i + n ≡ task_count w → longest_wait L (tasks_left w i) ≤ word_most
    left zero i e = omega (arith, at_end (longest_wait_sums L) w i e)
    left (suc n) i e = omega (arith, left n (i + 1) (omega arith), at_one (longest_wait_sums L) w i (omega arith), wait_small w v L i (omega arith))
