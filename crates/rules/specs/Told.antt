-- Each answer as this paper tells it: a number, and the values that go with it. Document 01, the last paragraph; document 02, 3/14.
use Rattle.std.specs.Prelude.{ℕ, List, [], ◌∷◌, ◌++◌, Option, Some, None, Result, Ok, Err}
use Rattle.rules.specs.Refusals.{entry, carried_values}
use Rattle.rules.specs.declared.Refusal.{Refusal}
use Rattle.rules.specs.declared.Verdict.{Verdict}
use Rattle.rules.specs.declared.Late.{Late}
use Rattle.rules.specs.declared.Timing.{Timing}
use Rattle.rules.specs.declared.Reported.{Reported}

-- a number with values
infix 15 ◌with◌
pub data Told : Type 0 where
  ◌with◌ : ℕ → List ℕ → Told

-- its number
abbrev pub number_told : Told → ℕ
number_told (n with vs) = n

-- its values
abbrev pub values_told : Told → List ℕ
values_told (n with vs) = vs

-- a refusal: its number with what it carries
abbrev pub refusal_told : Refusal → Told
refusal_told r = (entry r).number with carried_values (entry r).carries

-- an answer that is a count: 0 with it
abbrev pub count_told : Result ℕ Refusal → Told
count_told (Ok n) = 0 with (n ∷ [])
count_told (Err r) = refusal_told r

-- the reader: the task count
abbrev pub read_told : Result ℕ Refusal → Told
read_told = count_told

-- the writer: the length
abbrev pub write_told : Result ℕ Refusal → Told
write_told = count_told

-- the rows: 200 on time with the row count; 201 late with the row count, and the task, job and deadline of the late job
abbrev pub late_told : ℕ → Option Late → Told
late_told n None = 200 with (n ∷ [])
late_told n (Some j) = 201 with (n ∷ j.task ∷ j.job ∷ j.deadline ∷ [])

abbrev pub timing_told : Timing → Told
timing_told t = late_told t.rows t.late

-- the schedule: that
abbrev pub schedule_told : Result Timing Refusal → Told
schedule_told (Ok t) = timing_told t
schedule_told (Err r) = refusal_told r

-- the value that a blocker carries: its task's number, or none
abbrev pub blocker_values : Option ℕ → List ℕ
blocker_values (Some b) = b ∷ []
blocker_values None = []

-- a verdict: 100 meets with the span; 101 misses with the length, the blocker and the excess; 102 too far with nothing
abbrev pub judged_told : Verdict → Told
judged_told (Verdict.Meets σ) = 100 with (σ ∷ [])
judged_told (Verdict.Misses L b over) = 101 with (L ∷ blocker_values b ++ (over ∷ []))
judged_told Verdict.TooFar = 102 with []

-- the verdict call
abbrev pub verdict_told : Result Verdict Refusal → Told
verdict_told (Ok v) = judged_told v
verdict_told (Err r) = refusal_told r

-- the pattern: the row count
abbrev pub pattern_told : Result ℕ Refusal → Told
pattern_told = count_told

-- the report of one set: 0 with the length of its lines, and how many bytes are left to read
abbrev pub report_told : Result Reported Refusal → Told
report_told (Ok r) = 0 with (r.length ∷ r.left ∷ [])
report_told (Err r) = refusal_told r
