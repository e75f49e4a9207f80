-- Legal patterns. Document 01, "The verdict over all arrivals", first line.
use Rattle.std.specs.Prelude.{◌≡◌, ◌+◌, ◌-◌, max, min, ◌≤◌, ◌<◌, length}
use mathlib.Core.List.{List, [], ◌∷◌, Memᴰ}
use Rattle.rules.specs.Task.{task_at}
use Rattle.rules.specs.declared.Task.{Task}
use Rattle.rules.specs.Dispatch.{Job}

-- a job of one of the tasks, released at tick 0 or later: due D after its release, with a run time from 1 to C
pub record Fits (ts : List Task) (j : Job) : Type 0 where
  pub known : j.task < length ts
  pub due : j.deadline ≡ j.release + (task_at ts j.task).D
  pub runs : 1 ≤ j.run
  pub within : j.run ≤ (task_at ts j.task).C

-- two jobs of one task: their releases are at least T apart, in either order, and they are numbered by release
pub record Apart (ts : List Task) (i j : Job) : Type 0 where
  pub gap : i.task ≡ j.task → (task_at ts i.task).T ≤ max i.release j.release - min i.release j.release
  pub up : i.task ≡ j.task → i.release < j.release → i.number < j.number
  pub down : i.task ≡ j.task → j.release < i.release → j.number < i.number

-- a legal pattern, a finite list of jobs: every one fits, and any two are apart; the order of the list says nothing
abbrev pub Legal : List Task → List Job → Type 0
Legal ts [] = Unit {0}
Legal ts (j ∷ js) = Fits ts j × ((i : Job) → Memᴰ i js → Apart ts j i) × Legal ts js
