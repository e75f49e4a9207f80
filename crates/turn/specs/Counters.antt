-- The number of the next job of each task, and what it stands for: the jobs that are not started, and the one that starts next.
use Rattle.std.specs.Prelude.{◌≡◌, ℕ, zero, suc, ◌+◌, ◌-◌, ◌*◌, ◌^◌, max, ◌≤◌, ◌<◌, List, [], ◌++◌, get_or, replicate, Option, Some, None, if◌then◌else◌, ◌⊎◌, MatchOption, Bool, ◌&&◌, ◌||◌, ltb, eqb}
use Rattle.rules.specs.Numbers.{task_most}
use Rattle.rules.specs.Dispatch.{Job, pick, ready}
use Rattle.rules.specs.Jobs.{Train, train, plan_train}
use Rattle.rules.specs.Table.{task_in}
use Rattle.rules.specs.declared.Plan.{Plan}
use Rattle.turn.specs.declared.Turn.{Turn}

-- the train of task i of a table
abbrev pub train_at : List ℕ → Plan → ℕ → Train
train_at w p i = plan_train p i (task_in w i)

-- when job q of task i is released
abbrev pub release_at : List ℕ → Plan → ℕ → ℕ → ℕ
release_at w p i q = (train_at w p i).first + q * (task_in w i).T

-- job q of task i
abbrev pub job_at : List ℕ → Plan → ℕ → ℕ → Job
job_at w p i q =
    record {
      task = i;
      number = q;
      release = release_at w p i q;
      deadline = release_at w p i q + (task_in w i).D;
      run = (task_in w i).C;
    }

-- the jobs of task i from number q on
abbrev pub jobs_at : List ℕ → Plan → ℕ → ℕ → List Job
jobs_at w p i q = train ((train_at w p i).count - q) q (release_at w p i q) i (task_in w i)

-- the jobs of the n tasks from k on that are not started
unfoldable pub rest_from : List ℕ → Plan → List ℕ → ℕ → ℕ → List Job
rest_from w p nx zero k = []
rest_from w p nx (suc n) k = jobs_at w p k (get_or nx k 0) ++ rest_from w p nx n (suc k)

-- no job is started
abbrev pub none_started : List ℕ
none_started = replicate task_most 0

-- whether a turn goes before another: the one that can start first does, then the one with the lesser deadline, then that of the lower task
abbrev pub goes_first : Turn → Turn → Bool
goes_first x y = ltb x.start y.start || (eqb x.start y.start && (ltb x.due y.due || (eqb x.due y.due && ltb x.task y.task)))

-- the turn of no task: each other goes before it
abbrev pub last_turn : Turn
last_turn = record { start = 2 ^ 64 - 1; due = 2 ^ 64 - 1; task = 2 ^ 64 - 1 }

-- of two turns the one that goes first
abbrev pub first_of : Turn → Turn → Turn
first_of x y = if goes_first y x then y else x

-- of two turns, where there are two, the one that goes first
abbrev pub sooner : Option Turn → Option Turn → Option Turn
sooner None o = o
sooner (Some x) None = Some x
sooner (Some x) (Some y) = Some (first_of x y)

-- the next job of task i, as it could start with the tile free from tick t on
pub record Offered (w : List ℕ) (p : Plan) (nx : List ℕ) (t i : ℕ) (x : Turn) : Type 0 where
  pub its_task : x.task ≡ i
  pub live : get_or nx i 0 < (train_at w p i).count
  pub few : get_or nx i 0 + 1 < 2 ^ 32
  pub early : release_at w p i (get_or nx i 0) < 2 ^ 33
  pub starts : x.start ≡ max t (release_at w p i (get_or nx i 0))
  pub due_then : x.due ≡ (job_at w p i (get_or nx i 0)).deadline

-- what task i offers: no job, where none is left, or the next one
abbrev pub Offers : List ℕ → Plan → List ℕ → ℕ → ℕ → Option Turn → Type 0
Offers w p nx t i offered = MatchOption offered ((train_at w p i).count ≤ get_or nx i 0) (λ x. Offered w p nx t i x)

-- of the tasks from i on the next job to start, with the tile free from tick t on
pub record Chosen (w : List ℕ) (p : Plan) (nx : List ℕ) (t m i : ℕ) (x : Turn) : Type 0 where
  pub from : i ≤ x.task
  pub is_task : x.task < m
  pub live : get_or nx x.task 0 < (train_at w p x.task).count
  pub few : get_or nx x.task 0 + 1 < 2 ^ 32
  pub soon : x.start ≤ max t (2 ^ 33)
  pub starts : ready t (rest_from w p nx (m - i) i) ≡ x.start
  pub due_then : x.due ≡ (job_at w p x.task (get_or nx x.task 0)).deadline
  pub picked : pick x.start (rest_from w p nx (m - i) i) ≡ Some (job_at w p x.task (get_or nx x.task 0))

-- what the walk over the tasks has found from i on: no job, where none is left, or the next one
abbrev pub Best : List ℕ → Plan → List ℕ → ℕ → ℕ → ℕ → Option Turn → Type 0
Best w p nx t m i found = MatchOption found (rest_from w p nx (m - i) i ≡ []) (λ x. Chosen w p nx t m i x)

-- what the walk holds for that: the turn of no task, where no job is left, or that of the next one
abbrev pub Held : List ℕ → Plan → List ℕ → ℕ → ℕ → ℕ → Turn → Type 0
Held w p nx t m i x = ((x ≡ last_turn) × (rest_from w p nx (m - i) i ≡ [])) ⊎ Chosen w p nx t m i x
