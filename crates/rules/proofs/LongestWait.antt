-- The blocker, found on a walk from the last task to the first: the longest wait so far, and the lowest-numbered task that has it.
use mathlib.Core.Path.{◌≡◌, refl, sym, ap, subst₂, ◌∙◌}
use mathlib.Core.Logic.{⊎_elim}
use Prim.Native.Nat.{ℕ, suc, ◌-◌, ◌≤◌, ◌<◌}
use native.Mathlib.Omega.{arith}
use mathlib.Core.List.{List}
use mathlib.Core.Bool.{Bool, true, false, ◌&&◌}
use lib.Dec.{ltb, eqb}
use borrow.Author.Tests.{ltb-true, leb-true, lt-ltb, le-ltb, eq-eqb, ne_eqb}
use Rattle.rules.specs.Task.{tasks_of}
use Rattle.rules.specs.declared.Task.{Task}
use Rattle.rules.specs.Table.{task_in, task_count, ValidTable}
use Rattle.rules.specs.Demand.{wait, longest_wait, first_waiting, blocker}
use Rattle.rules.proofs.Booleans.{lt_or_ge}
use Rattle.rules.proofs.Verdicts.{wait_in, wait_out}
use Rattle.rules.proofs.TasksLeft.{tasks_left, left_none, left_more, left_all}
use Rattle.std.specs.Prelude.{Some}
use Rattle.std.proofs.lemmas.Bool.{and_from}

-- most is the longest wait of the tasks, numbered from k on, and task the first that has it
pub record Longest (L k : ℕ) (ts : List Task) (most task : ℕ) : Type 0 where
  pub most_is : most ≡ longest_wait L ts
  pub task_is : 0 < most → task ≡ first_waiting most L k ts

-- of no task
pub longest_none : (w : List ℕ) (L : ℕ) → Longest L (task_count w) (tasks_left w (task_count w)) 0 0
unfolding longest_wait
longest_none w L = rw (left_none w) (record { most_is = refl; task_is = λ pos. absurd (omega arith) })

-- of all tasks
pub longest_all : (w : List ℕ) (L i most task : ℕ) → ValidTable w → i ≤ 0 → Longest L i (tasks_left w i) most task
    → Longest L 0 (tasks_of w) most task
longest_all w L i most task v h x =
    let e : i ≡ 0 = omega arith in
    subst₂ (λ (k : ℕ) (ts : List Task). Longest L k ts most task) e (left_all w v i h) x

-- a task's test for the blocker, by its wait
module _ (L : ℕ) (τ : Task) (W : ℕ) where
  abbrev waits : Bool
  waits = ltb L τ.D && eqb (τ.C - 1) W

  waits_so : wait L τ ≡ W → 0 < W → waits ≡ true
  waits_so e pos =
      ⊎_elim (λ a. and_from _ _ a (eq-eqb _ _ (sym (wait_in L τ (ltb-true _ _ a)) ∙ e))) (λ a. absurd (omega (arith, wait_out L τ (leb-true _ _ a))))
      (lt_or_ge L τ.D)

  waits_less : wait L τ < W → waits ≡ false
  waits_less h =
      ⊎_elim
      (λ a. rw (a, ne_eqb (τ.C - 1) W (λ e. omega (arith, wait_in L τ (ltb-true _ _ a)))))
      (λ a. rw (le-ltb L τ.D (leb-true _ _ a)))
      (lt_or_ge L τ.D)

-- of the tasks from number i − 1 on, from those of the tasks from number i on
module _ (w : List ℕ) (L i : ℕ) (some_left : 0 < i) (in_range_law : i ≤ task_count w) (most task : ℕ)
    (h : Longest L i (tasks_left w i) most task) (r : ℕ) (r_is : r ≡ wait L (task_in w (i - 1))) where
  -- where the task before them waits as long, or longer
  pub longest_new : most ≤ r → Longest L (i - 1) (tasks_left w (i - 1)) r (i - 1)
  unfolding longest_wait first_waiting
  longest_new a =
      rw (left_more w i some_left in_range_law)
      (record { most_is = omega (arith, h.most_is); task_is = λ pos. rw (waits_so L (task_in w (i - 1)) r (sym r_is) pos) })

  -- or not as long
  pub longest_on : r < most → Longest L (i - 1) (tasks_left w (i - 1)) most task
  unfolding longest_wait first_waiting
  longest_on a =
      let e : suc (i - 1) ≡ i = omega arith in
      rw (left_more w i some_left in_range_law)
      (record {
        most_is = omega (arith, h.most_is);
        task_is = λ pos. rw (waits_less L (task_in w (i - 1)) most (omega arith), e) (h.task_is pos);
      })

-- what they say of the blocker
module _ (L : ℕ) (ts : List Task) (most task : ℕ) (h : Longest L 0 ts most task) where
  pub longest_blocks : (most ≡ 0 → ⊥) → blocker L ts ≡ Some task
  unfolding blocker
  longest_blocks n = rw (← h.most_is, lt-ltb 0 most (omega arith)) (ap Some (sym (h.task_is (omega arith))))
