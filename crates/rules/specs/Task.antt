-- Tasks and tables. Document 01, "What the check covers".
use Rattle.std.specs.Prelude.{ℕ, ◌+◌, ◌≤◌, get_or}
use mathlib.Core.List.{List, [], ◌∷◌, Memᴰ}
use Rattle.rules.specs.declared.Task.{Task}

-- a table holds four words a task, in the order C, D, T, R; what is left over is no task
unfoldable pub tasks_of : List ℕ → List Task
tasks_of [] = []
tasks_of (c ∷ []) = []
tasks_of (c ∷ d ∷ []) = []
tasks_of (c ∷ d ∷ t ∷ []) = []
tasks_of (c ∷ d ∷ t ∷ r ∷ ws) = record { C = c; D = d; T = t; R = r } ∷ tasks_of ws

-- the task of a number, from 0; where there is none, a task of noughts
unfoldable pub task_at : List Task → ℕ → Task
task_at ts k = get_or ts k (record { C = 0; D = 0; T = 0; R = 0 })

-- the sum of the tasks' executions
unfoldable pub executions : List Task → ℕ
executions [] = 0
executions (τ ∷ ts) = τ.C + executions ts

-- a task with C, D and T of 1 or more
pub record Sound (τ : Task) : Type 0 where
  pub c_pos : 1 ≤ τ.C
  pub d_pos : 1 ≤ τ.D
  pub t_pos : 1 ≤ τ.T

-- tasks that are all so; no upper bound is asked
abbrev pub AllSound : List Task → Type 0
AllSound ts = (τ : Task) → Memᴰ τ ts → Sound τ
