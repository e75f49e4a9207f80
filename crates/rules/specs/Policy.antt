-- The rules of the dispatcher in the paper's words, one field a rule. Document 01, "Dispatch".
use Rattle.std.specs.Prelude.{◌≡◌, ℕ, zero, suc, ◌≤◌, ◌<◌, true, length, get_or}
use mathlib.Core.List.{List, [], ◌∷◌, Memᴰ}
use Rattle.rules.specs.Dispatch.{Job, Row, finish, late}

-- j is not behind i: its deadline is no later, and where the deadlines are equal its task is no higher
pub record Ahead (j i : Job) : Type 0 where
  pub deadline : j.deadline ≤ i.deadline
  pub task : j.deadline ≡ i.deadline → j.task ≤ i.task

-- the row at a place
abbrev pub row_at : List Row → ℕ → Row
row_at ws k = get_or ws k (record { job = record { task = 0; number = 0; release = 0; deadline = 0; run = 0 }; start = 0 })

-- from which tick on the tile is free for the row at a place: from t for the first, else from the finish of the row before
abbrev pub free_from : ℕ → List Row → ℕ → ℕ
free_from t ws zero = t
free_from t [] (suc k) = t
free_from t (w ∷ ws) (suc k) = free_from (finish w) ws k

-- no row before a place runs the job
abbrev pub NotStarted : List Row → ℕ → Job → Type 0
NotStarted ws k j = (i : ℕ) → i < k → (row_at ws i).job ≡ j → ⊥

-- the rules, for the rows of the jobs js with the tile free from tick t on
pub record Obeys (t : ℕ) (js : List Job) (ws : List Row) : Type 0 where
  -- every row runs one of the jobs
  pub of_jobs : (k : ℕ) → k < length ws → Memᴰ (row_at ws k).job js
  -- every job has a row
  pub every_job : (j : Job) → Memᴰ j js → (k : ℕ) × (k < length ws) × ((row_at ws k).job ≡ j)
  -- and no job has two
  pub once : (i k : ℕ) → i < k → k < length ws → (row_at ws i).job ≡ (row_at ws k).job → ⊥
  -- there are as many rows as jobs
  pub as_many : length ws ≡ length js
  -- no job starts before its release
  pub not_early : (k : ℕ) → k < length ws → (row_at ws k).job.release ≤ (row_at ws k).start
  -- nor before the tile is free
  pub tile_free : (k : ℕ) → k < length ws → free_from t ws k ≤ (row_at ws k).start
  -- two rows never overlap: the one at the earlier place finishes by the start of the other
  pub no_overlap : (i k : ℕ) → i < k → k < length ws → finish (row_at ws i) ≤ (row_at ws k).start
  -- rows stand in order of start
  pub in_order : (i k : ℕ) → i < k → k < length ws → (row_at ws i).start ≤ (row_at ws k).start
  -- the tile is never idle while a job is pending: where it was free before the start, no job not yet started is released before the start
  pub never_idle : (k : ℕ) → k < length ws → (j : Job) → Memᴰ j js → NotStarted ws k j
      → free_from t ws k < (row_at ws k).start → (row_at ws k).start ≤ j.release
  -- of the pending jobs, released and not yet started, the one with the least deadline starts; of equal deadlines the lower task
  pub least_first : (k : ℕ) → k < length ws → (j : Job) → Memᴰ j js → NotStarted ws k j
      → j.release ≤ (row_at ws k).start → Ahead (row_at ws k).job j

-- the row of the late job that is named: no late job has a lesser deadline, or an equal one and a lower task
pub record NamedLate (ws : List Row) (w : Row) : Type 0 where
  pub row : Memᴰ w ws
  pub is_late : late w ≡ true
  pub ahead : (v : Row) → Memᴰ v ws → late v ≡ true → Ahead w.job v.job
