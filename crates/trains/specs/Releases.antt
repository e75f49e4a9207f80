-- When a job of a train is released, if the train has it.
use Rattle.std.specs.Prelude.{◌≡◌, ℕ, ◌+◌, ◌*◌, ◌^◌, ◌≤◌, ◌<◌, Option, Some, None}
use Rattle.rules.specs.Demand.{count_within}
use Rattle.rules.specs.Jobs.{Train, count_before}
use Rattle.rules.specs.declared.Task.{Task}
use Rattle.trains.specs.declared.Reach.{Reach}

-- the train from R on of the jobs that are released before an end tick
abbrev pub released_before : ℕ → Task → Train
released_before Z τ = record { first = τ.R; count = count_before Z τ }

-- the train from a tick on of the jobs that are due within a length from then
abbrev pub due_within : ℕ → ℕ → Task → Train
due_within r L τ = record { first = r; count = count_within L τ }

-- the train of a task by its reach
abbrev pub train_of : Reach → Task → Train
train_of (Reach.Before Z) τ = released_before Z τ
train_of (Reach.Within L r) τ = due_within r L τ
train_of Reach.Once τ = record { first = 0; count = 1 }

-- the train has job q, and with a period of T it is released at r; both numbers are small
pub record Coming (x : Train) (T q r : ℕ) : Type 0 where
  pub live : q < x.count
  pub when : r ≡ x.first + q * T
  pub few : q + 1 < 2 ^ 32
  pub early : r < 2 ^ 33

-- what is said of job q of a train: when it is released, or that there is none
pub record Comes (x : Train) (T q : ℕ) (said : Option ℕ) : Type 0 where
  pub at : (r : ℕ) → said ≡ Some r → Coming x T q r
  pub never : said ≡ None → x.count ≤ q

-- what is said of job q of the train of one job, at 0, whatever the period
abbrev pub ComesOnce : ℕ → Option ℕ → Type 0
ComesOnce q said = (T : ℕ) → Comes (record { first = 0; count = 1 }) T q said
