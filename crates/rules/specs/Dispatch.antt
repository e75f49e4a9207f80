-- The dispatcher: least deadline first, equal deadlines to the lower task, never preempted, never idle. Document 01, "Dispatch".
use Rattle.std.specs.Prelude.{ℕ, zero, suc, ◌+◌, max, min, List, [], ◌∷◌, Bool, ◌&&◌, ◌||◌, leb, ltb, eqb, length, if◌then◌else◌, Option, Some, None}

-- a job: its task, its number within the task, its release, its deadline, its run time
pub record Job : Type 0 where
  pub task : ℕ
  pub number : ℕ
  pub release : ℕ
  pub deadline : ℕ
  pub run : ℕ

-- a job that was run, and where it started
pub record Row : Type 0 where
  pub job : Job
  pub start : ℕ

-- a job that starts at s runs without break to s + its run time
unfoldable pub finish : Row → ℕ
finish w = w.start + w.job.run

-- it is late if it finishes after its deadline
unfoldable pub late : Row → Bool
late w = ltb w.job.deadline (finish w)

-- i goes before j: the lesser deadline, and of equal deadlines the lower task
unfoldable pub before : Job → Job → Bool
before i j = ltb i.deadline j.deadline || (eqb i.deadline j.deadline && ltb i.task j.task)

-- of a job and perhaps another, the one that goes before
unfoldable pub sooner : Job → Option Job → Option Job
sooner j None = Some j
sooner j (Some i) = if before i j then Some i else Some j

-- of the jobs released at or before tick s, the one that goes before the others
unfoldable pub pick : ℕ → List Job → Option Job
pick s [] = None
pick s (j ∷ js) = if leb j.release s then sooner j (pick s js) else pick s js

-- the same job: the task and the number are equal
unfoldable pub same : Job → Job → Bool
same i j = eqb i.task j.task && eqb i.number j.number

-- the jobs without one of them
unfoldable pub without : Job → List Job → List Job
without i [] = []
without i (j ∷ js) = if same i j then js else j ∷ without i js

-- the earliest release among a job and those after it
unfoldable pub earliest : Job → List Job → ℕ
earliest j [] = j.release
earliest j (i ∷ js) = min j.release (earliest i js)

-- when the next job starts, with the tile free from tick t on: at once, or at the next release
unfoldable pub ready : ℕ → List Job → ℕ
ready t [] = t
ready t (j ∷ js) = max t (earliest j js)

-- the rows of at most n jobs of js, none of them started yet, with the tile free from tick t on
unfoldable pub rows : ℕ → ℕ → List Job → List Row
rows zero t js = []
rows (suc n) t js =
    elim (pick (ready t js) js) as (λ _. List Row) [
      | None ↦ []
      | Some j ↦ record { job = j; start = ready t js } ∷ rows n (ready t js + j.run) (without j js)
    ]

-- the rows of any finite list of jobs
unfoldable pub dispatch : List Job → List Row
dispatch js = rows (length js) 0 js

-- the late job whose deadline is least, ties to the lower task
unfoldable pub late_job : List Row → Option Job
late_job [] = None
late_job (w ∷ ws) = if late w then sooner w.job (late_job ws) else late_job ws

-- a row is four words: task, job number, start, finish
unfoldable pub row_words : List Row → List ℕ
row_words [] = []
row_words (w ∷ ws) = w.job.task ∷ w.job.number ∷ w.start ∷ finish w ∷ row_words ws
