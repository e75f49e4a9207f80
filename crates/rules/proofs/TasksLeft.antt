-- A walk over a table from its last task to its first: the tasks from a number on, and what is summed up over them.
use mathlib.Core.Path.{◌≡◌, refl, sym, ap, ◌∙◌}
use Prim.Native.Nat.{ℕ, suc, ◌+◌, ◌-◌, ◌*◌, max, ◌≤◌, ◌<◌}
use native.Mathlib.Nat.{add_comm}
use native.Mathlib.Omega.{arith}
use mathlib.Core.List.{List, [], ◌∷◌}
use Rattle.rules.specs.Task.{tasks_of}
use Rattle.rules.specs.declared.Task.{Task}
use Rattle.rules.specs.Table.{task_in, tasks_from, task_count, ValidTable}
use Rattle.rules.specs.Demand.{due, total_due, wait, longest_wait, ceiling, work}
use Rattle.rules.proofs.Tables.{tasks_are}

-- the tasks from number i on
abbrev pub tasks_left : List ℕ → ℕ → List Task
tasks_left w i = tasks_from w (task_count w - i) i

-- at the start none, at each step one more, at the end all
module _ (w : List ℕ) where
  pub left_none : tasks_left w (task_count w) ≡ []
  unfolding tasks_from
  left_none = let e : task_count w - task_count w ≡ 0 = omega arith in ap (λ (n : ℕ). tasks_from w n (task_count w)) e

  pub left_more : (i : ℕ) → 0 < i → i ≤ task_count w → tasks_left w (i - 1) ≡ task_in w (i - 1) ∷ tasks_left w i
  unfolding tasks_from
  left_more i a b =
      let e : task_count w - (i - 1) ≡ suc (task_count w - i) = omega arith in
      let f : suc (i - 1) ≡ i = omega arith in
      ap (λ (n : ℕ). tasks_from w n (i - 1)) e ∙ ap (λ (k : ℕ). task_in w (i - 1) ∷ tasks_from w (task_count w - i) k) f

  pub left_all : ValidTable w → (i : ℕ) → i ≤ 0 → tasks_left w i ≡ tasks_of w
  left_all v i h =
      let e : i ≡ 0 = omega arith in
      let f : task_count w - 0 ≡ task_count w = omega arith in
      ap (tasks_left w) e ∙ ap (λ (n : ℕ). tasks_from w n 0) f ∙ sym (tasks_are w (task_count w) v.words)

-- total is summed up over the tasks: 0 of none; and part, the first task's, joined to that of the others
pub record Sums (total : List Task → ℕ) (part : Task → ℕ) (join : ℕ → ℕ → ℕ) : Type 0 where
  pub of_none : total [] ≡ 0
  pub of_more : (τ : Task) (ts : List Task) → total (τ ∷ ts) ≡ join (total ts) (part τ)

-- as Due and the work are, by adding, and Wait, by taking the greater
pub total_due_sums : (L : ℕ) → Sums (total_due L) (due L) (λ s r. s + r)
unfolding total_due
total_due_sums L = record { of_none = refl; of_more = λ τ ts. add_comm (due L τ) (total_due L ts) }

pub longest_wait_sums : (L : ℕ) → Sums (longest_wait L) (wait L) (λ s r. max r s)
unfolding longest_wait
longest_wait_sums L = record { of_none = refl; of_more = λ τ ts. refl }

pub work_sums : (t : ℕ) → Sums (work t) (λ τ. τ.C * ceiling t τ.T) (λ s r. s + r)
unfolding work
work_sums t = record { of_none = refl; of_more = λ τ ts. add_comm (τ.C * ceiling t τ.T) (work t ts) }

-- such a total on the walk
module _ {total : List Task → ℕ} {part : Task → ℕ} {join : ℕ → ℕ → ℕ} (S : Sums total part join) (w : List ℕ) where
  pub total_none : 0 ≡ total (tasks_left w (task_count w))
  total_none = sym (ap total (left_none w) ∙ S.of_none)

  pub total_more : (i : ℕ) → 0 < i → i ≤ task_count w → (τ : Task) → τ ≡ task_in w (i - 1) → (s r : ℕ) → s ≡ total (tasks_left w i) → r ≡ part τ
      → join s r ≡ total (tasks_left w (i - 1))
  total_more i a b τ t s r p q =
      let e : r ≡ part (task_in w (i - 1)) = q ∙ ap part t in
      rw (left_more w i a b, S.of_more (task_in w (i - 1)) (tasks_left w i), ← p, ← e)

  pub total_all : ValidTable w → (i : ℕ) → i ≤ 0 → (s : ℕ) → s ≡ total (tasks_left w i) → s ≡ total (tasks_of w)
  total_all v i h s p = p ∙ ap total (left_all w v i h)
