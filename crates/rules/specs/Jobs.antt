-- Lists of jobs: those of the concrete schedule and those of the named pattern, both as one train of jobs a task.
-- Document 01, "Dispatch" (job q of a task) and "The named pattern".
use Rattle.std.specs.Prelude.{◌≡◌, ℕ, zero, suc, ◌+◌, ◌-◌, ◌*◌, ◌/◌, List, [], ◌∷◌, ◌++◌, ltb, eqb, if◌then◌else◌, Option, Some, None}
use Rattle.rules.specs.declared.Task.{Task}
use Rattle.rules.specs.Dispatch.{Job}
use Rattle.rules.specs.Demand.{count_within, blocker}
use Rattle.rules.specs.declared.Plan.{Plan}

-- n jobs of task number k, the first being number q and released at r, each a period after the one before; all run for C
unfoldable pub train : ℕ → ℕ → ℕ → ℕ → Task → List Job
train zero q r k τ = []
train (suc n) q r k τ =
    record { task = k; number = q; release = r; deadline = r + τ.D; run = τ.C } ∷ train n (suc q) (r + τ.T) k τ

-- a job of a train from r on: job q is released at r + q × T, due D after its release, and runs for C
pub record OnTrain (r : ℕ) (τ : Task) (j : Job) : Type 0 where
  pub released : j.release ≡ r + j.number * τ.T
  pub due : j.deadline ≡ j.release + τ.D
  pub runs : j.run ≡ τ.C

-- which train a task has: when its first job is released, and how many jobs there are
pub record Train : Type 0 where
  pub first : ℕ
  pub count : ℕ

-- for each task in order, numbered from k on, its train
unfoldable pub trains : (ℕ → Task → Train) → ℕ → List Task → List Job
trains plan k [] = []
trains plan k (τ ∷ ts) = train (plan k τ).count 0 (plan k τ).first k τ ++ trains plan (suc k) ts

-- how many of R, R + T, R + 2T .. lie before Z
unfoldable pub count_before : ℕ → Task → ℕ
count_before Z τ = if ltb τ.R Z then 1 + (Z - 1 - τ.R) / τ.T else 0

-- concrete: job q is released at R + q × T, and only jobs released before Z exist
unfoldable pub concrete_train : ℕ → ℕ → Task → Train
concrete_train Z k τ = record { first = τ.R; count = count_before Z τ }

-- the named pattern. With a blocker: it is released at 0, and each task with D at most L at 1, 1 + T .. while the deadline is at most L + 1;
-- without one, each task with D at most L at 0, T .. while the deadline is at most L
unfoldable pub named_train : ℕ → Option ℕ → ℕ → Task → Train
named_train L (Some b) k τ = if eqb k b then record { first = 0; count = 1 } else record { first = 1; count = count_within L τ }
named_train L None k τ = record { first = 0; count = count_within L τ }

-- the train of a task of number k under a plan
abbrev pub plan_train : Plan → ℕ → Task → Train
plan_train (Plan.Concrete Z) k τ = concrete_train Z k τ
plan_train (Plan.Named L b) k τ = named_train L b k τ

-- the jobs of the tasks under a plan
unfoldable pub planned : Plan → List Task → List Job
planned p ts = trains (plan_train p) 0 ts

-- the jobs of the concrete schedule
abbrev pub concrete : ℕ → List Task → List Job
concrete Z ts = planned (Plan.Concrete Z) ts

-- the jobs of the named pattern of a length
abbrev pub named : ℕ → List Task → List Job
named L ts = planned (Plan.Named L (blocker L ts)) ts
