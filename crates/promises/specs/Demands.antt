-- The three demands on one page, over the definitions and the calls' contracts of rules/specs.
use Rattle.std.specs.Prelude.{◌≡◌, ◌↔◌, ◌⊎◌, ℕ, suc, ◌+◌, ◌-◌, ◌*◌, ◌/◌, ◌%◌, ◌≤◌, ◌<◌, true, false, length, take, drop, replicate, if◌then◌else◌, Option, Some, Result, Ok, Err, None}
use mathlib.Core.List.{List, [], ◌∷◌, ◌++◌, Memᴰ}
use Rattle.rules.specs.declared.Task.{Task}
use Rattle.rules.specs.Task.{tasks_of, task_at, executions, AllSound}
use Rattle.rules.specs.Refusals.{number_of}
use Rattle.rules.specs.Table.{table_refusal, FirstOut, Fine}
use Rattle.rules.specs.Told.{Told, number_told, judged_told, read_told, write_told, schedule_told, verdict_told, pattern_told, report_told}
use Rattle.rules.specs.Dispatch.{Job, Row, late, same, dispatch, late_job}
use Rattle.rules.specs.Policy.{Obeys, NamedLate}
use Rattle.rules.specs.Jobs.{OnTrain, concrete, named}
use Rattle.rules.specs.Legal.{Legal}
use Rattle.rules.specs.Demand.{total_due, longest_wait, fails, closes, blocker, Blocks, verdict}
use Rattle.rules.specs.Text.{bytes, took, stop, read_set, write_set}
use Rattle.rules.specs.Sheet.{tasks, read_sheet, write_sheet}
use Rattle.rules.specs.Stars.{set}
use Rattle.rules.specs.Answers.{read_answer, read_table, read_rest, write_answer, write_buffer, read_sheet_answer, read_sheet_table, write_sheet_answer, write_sheet_buffer, schedule_answer, schedule_buffer, verdict_answer, pattern_answer, pattern_buffer, first_answer, check_number}
use Rattle.rules.specs.Report.{report_answer, report_buffer, output}
use Rattle.rules.specs.Calls.{Reads, Writes, ReadsSheet, WritesSheet, Schedules, Shows, Reports}
use Rattle.rules.specs.Generator.{set_drawn, words_drawn, state_after_set, state_after_sets, generated, Draws, draw_answer, draw_state, draw_table, DrawsSet}
use Rattle.rules.specs.declared.Refusal.{Refusal}
use Rattle.rules.specs.declared.Verdict.{Verdict}
use Rattle.promises.specs.Tables.{Least, Nowhere, ReaderTells, WriterTells, ScheduleTells, JudgeTells, PatternTells, FirstTells, ReportTells, Run, SetTells, SheetTells}
use Rattle.rules.specs.declared.Timing.{Timing}
use Rattle.rules.specs.declared.Reported.{Reported}

-- 1. ANY INPUT ENDS WELL. Any table, any text, any lent buffer gets an answer or a numbered refusal. A refusal changes no lent buffer.

-- a contract leaves exactly one possibility
pub record One (X : Type 0) (Contract : X → Type 0) : Type 0 where
  pub outcome : X
  pub as_due : Contract outcome
  pub no_other : (x : X) → Contract x → x ≡ outcome

-- for every input each call has exactly one outcome: its answer, what it hands back, and each lent buffer and state at exit
pub record EndsWell : Type 0 where
  pub reading : (text table : List ℕ) → One (Result ℕ Refusal × List ℕ × List ℕ) (λ o. Reads text table o.0 o.1 o.2)
  pub writing : (table out : List ℕ) → One (Result ℕ Refusal × List ℕ) (λ o. Writes table out o.0 o.1)
  pub scheduling : (table : List ℕ) (z : ℕ) (out : List ℕ) → One (Result Timing Refusal × List ℕ) (λ o. Schedules table z out o.0 o.1)
  pub judging : (table : List ℕ) → One (Result Verdict Refusal) (λ o. o ≡ verdict_answer table)
  pub showing : (table out : List ℕ) → One (Result ℕ Refusal × List ℕ) (λ o. Shows table out o.0 o.1)
  pub reporting : (number : ℕ) (text out : List ℕ) → One (Result Reported Refusal × List ℕ) (λ o. Reports number text out o.0 o.1)
  pub checking : (text : List ℕ) → One ℕ (λ o. o ≡ check_number text)
  pub drawing : (s : ℕ) → One (ℕ × ℕ) (λ o. Draws s o.0 o.1)
  pub drawing_set : (s number : ℕ) (table : List ℕ) → One (Result ℕ Refusal × ℕ × List ℕ) (λ o. DrawsSet s number table o.0 o.1 o.2)
  pub reading_sheet : (sheet table : List ℕ) → One (Result ℕ Refusal × List ℕ) (λ o. ReadsSheet sheet table o.0 o.1)
  pub writing_sheet : (table out : List ℕ) → One (Result ℕ Refusal × List ℕ) (λ o. WritesSheet table out o.0 o.1)

-- a refusal has a number from 1 to 8 or from 13 to 15; each lent buffer and state at exit is what it was; the reader hands the whole text back
pub record Untouched : Type 0 where
  pub numbered : (r : Refusal) → ((1 ≤ number_of r) × (number_of r ≤ 8)) ⊎ ((13 ≤ number_of r) × (number_of r ≤ 15))
  pub reading : (text table rest exit : List ℕ) (r : Refusal) → Reads text table (Err r) rest exit → (rest ≡ text) × (exit ≡ table)
  pub writing : (table out exit : List ℕ) (r : Refusal) → Writes table out (Err r) exit → exit ≡ out
  pub scheduling : (table out exit : List ℕ) (z : ℕ) (r : Refusal) → Schedules table z out (Err r) exit → exit ≡ out
  pub showing : (table out exit : List ℕ) (r : Refusal) → Shows table out (Err r) exit → exit ≡ out
  pub reporting : (number : ℕ) (text out exit : List ℕ) (r : Refusal) → Reports number text out (Err r) exit → exit ≡ out
  pub drawing : (s number after : ℕ) (table exit : List ℕ) (r : Refusal) → DrawsSet s number table (Err r) after exit → (after ≡ s) × (exit ≡ table)
  pub reading_sheet : (sheet table exit : List ℕ) (r : Refusal) → ReadsSheet sheet table (Err r) exit → exit ≡ table
  pub writing_sheet : (table out exit : List ℕ) (r : Refusal) → WritesSheet table out (Err r) exit → exit ≡ out

-- 2. THE NUMBERS ARE THE PAPER'S. Rows, late job, verdict and text each equal a definition.

-- each call tells and leaves what the paper's tables say (Tables.antt): what it gives stands in its table, and whatever stands there it gives
pub record PaperNumbers : Type 0 where
  pub reading : (text table : List ℕ) (t : Told) (rest exit : List ℕ)
      → ((read_told (read_answer text table) ≡ t) × (read_rest text table ≡ rest) × (read_table text table ≡ exit)) ↔ ReaderTells text table t rest exit
  pub writing : (table out : List ℕ) (t : Told) (exit : List ℕ)
      → ((write_told (write_answer table out) ≡ t) × (write_buffer table out ≡ exit)) ↔ WriterTells write_set table out t exit
  pub scheduling : (table : List ℕ) (z : ℕ) (out : List ℕ) (t : Told) (exit : List ℕ)
      → ((schedule_told (schedule_answer table z out) ≡ t) × (schedule_buffer table z out ≡ exit)) ↔ ScheduleTells table z out t exit
  pub judging : (table : List ℕ) (t : Told) → (verdict_told (verdict_answer table) ≡ t) ↔ JudgeTells table t
  pub showing : (table out : List ℕ) (t : Told) (exit : List ℕ)
      → ((pattern_told (pattern_answer table out) ≡ t) × (pattern_buffer table out ≡ exit)) ↔ PatternTells table out t exit
  pub first : (text : List ℕ) (t : Told) → (verdict_told (first_answer text) ≡ t) ↔ FirstTells text t
  pub reporting : (n : ℕ) (text out : List ℕ) (t : Told) (exit : List ℕ)
      → ((report_told (report_answer n text out) ≡ t) × (report_buffer n text out ≡ exit)) ↔ ReportTells n text out t exit
  pub too_long : (input : List ℕ) → 32768 < length input → output input ≡ bytes "toolong" ++ (10 ∷ [])
  pub printing : (input printed : List ℕ) → length input ≤ 32768 → (output input ≡ printed) ↔ Run 1 input printed
  pub drawing : (s n after : ℕ) → Draws s n after ↔ ((after ≡ (1664525 * s + 1013904223) % 4294967296) × (n ≡ after / 65536))
  pub drawing_set : (s number : ℕ) (table : List ℕ) (t : Told) (after : ℕ) (exit : List ℕ)
      → ((read_told (draw_answer s number table) ≡ t) × (draw_state s number table ≡ after) × (draw_table s number table ≡ exit)) ↔ SetTells s number table t after exit
  pub reading_sheet : (sheet table : List ℕ) (t : Told) (exit : List ℕ)
      → ((read_told (read_sheet_answer sheet table) ≡ t) × (read_sheet_table sheet table ≡ exit)) ↔ SheetTells sheet table t exit
  pub writing_sheet : (table out : List ℕ) (t : Told) (exit : List ℕ)
      → ((write_told (write_sheet_answer table out) ≡ t) × (write_sheet_buffer table out ≡ exit)) ↔ WriterTells write_sheet table out t exit

-- the dispatcher: the rows of a legal pattern obey the rules of document 01, and whatever obeys them is these rows; the late job named is late,
-- and no late job has a lesser deadline, or an equal one and a lower task
pub record Dispatcher : Type 0 where
  pub rules : (ts : List Task) → AllSound ts → (js : List Job) → Legal ts js → (ws : List Row) → Obeys 0 js ws ↔ (ws ≡ dispatch js)
  pub none_late : (ws : List Row) → (late_job ws ≡ None) ↔ ((w : Row) → Memᴰ w ws → late w ≡ false)
  pub late_job_shown : (ws : List Row) (j : Job) → late_job ws ≡ Some j → (w : Row) × NamedLate ws w × (w.job ≡ j)

-- the jobs: in the concrete schedule those of each task from R on that are released before Z; in the named pattern of L without a blocker those
-- from 0 on that are due by L; with one, its own at 0, and those of the other tasks from 1 on that are due by L + 1
pub record JobLists (ts : List Task) : Type 0 where
  pub concrete_legal : (z : ℕ) → Legal ts (concrete z ts)
  pub named_legal : (L : ℕ) → Legal ts (named L ts)
  pub concrete_jobs : (z : ℕ) (j : Job)
      → Memᴰ j (concrete z ts) ↔ ((j.task < length ts) × (j.release < z) × OnTrain (task_at ts j.task).R (task_at ts j.task) j)
  pub named_alone : (L : ℕ) (j : Job) → longest_wait L ts ≡ 0
      → Memᴰ j (named L ts) ↔ ((j.task < length ts) × (j.deadline ≤ L) × OnTrain 0 (task_at ts j.task) j)
  pub named_blocker : (L : ℕ) (j : Job) → 0 < longest_wait L ts → Blocks L ts j.task
      → Memᴰ j (named L ts) ↔ ((j.number ≡ 0) × OnTrain 0 (task_at ts j.task) j)
  pub named_others : (L b : ℕ) (j : Job) → 0 < longest_wait L ts → Blocks L ts b → (j.task ≡ b → ⊥)
      → Memᴰ j (named L ts) ↔ ((j.task < length ts) × (j.deadline ≤ L + 1) × OnTrain 1 (task_at ts j.task) j)

-- the text of the set (1,1,1) with R 0, byte for byte: tasks=1, c=1, d=1, t=1 and r=0, each with a byte 10
abbrev pub Bytes : Type 0
Bytes =
    write_set (1 ∷ 1 ∷ 1 ∷ 0 ∷ [])
    ≡ 116 ∷ 97 ∷ 115 ∷ 107 ∷ 115 ∷ 61 ∷ 49 ∷ 10 ∷ 99 ∷ 61 ∷ 49 ∷ 10 ∷ 100 ∷ 61 ∷ 49 ∷ 10 ∷ 116 ∷ 61 ∷ 49 ∷ 10 ∷ 114 ∷ 61 ∷ 48 ∷ 10 ∷ []

-- writing then reading gives the numbers back, whatever follows; reading an in-range set then writing gives the bytes back: by the definitions,
-- and of whatever meets the calls' contracts
pub record RoundTrips : Type 0 where
  pub write_then_read : (table after : List ℕ) → table_refusal table ≡ None → read_set (write_set table ++ after) ≡ took table after
  pub read_then_write : (text words after : List ℕ) → read_set text ≡ took words after → table_refusal words ≡ None → write_set words ++ after ≡ text
  pub written_is_read : (table out text : List ℕ) (n : ℕ) → Writes table out (Ok n) text
      → (after room : List ℕ) → length table ≤ length room → (answer : Result ℕ Refusal) (rest exit : List ℕ) → Reads (take n text ++ after) room answer rest exit
      → (answer ≡ Ok (length table / 4)) × (rest ≡ after) × (exit ≡ table ++ drop (length table) room)
  pub read_is_written : (text table rest words : List ℕ) (n : ℕ) → Reads text table (Ok n) rest words
      → (out exit : List ℕ) (k : ℕ) → Writes (take (4 * n) words) out (Ok k) exit → take k exit ++ rest ≡ text

-- 3. THE VERDICT IS TRUE OF EVERY ARRIVAL PATTERN. "Meets": no legal pattern, with run times from 1 to C, makes any job late.
-- "Misses": the named pattern makes one late. "Too far" is given only on its condition.

-- how many rows a job has
unfoldable pub rows_for : Job → List Row → ℕ
rows_for j [] = 0
rows_for j (w ∷ ws) = (if same j w.job then 1 else 0) + rows_for j ws

-- a pattern is run whole: each of its jobs has exactly one row, and no row is of another job
pub record Whole (js : List Job) : Type 0 where
  pub each_once : (j : Job) → Memᴰ j js → rows_for j (dispatch js) ≡ 1
  pub no_other : (w : Row) → Memᴰ w (dispatch js) → Memᴰ w.job js

-- it makes no job late
pub record InTime (js : List Job) : Type 0 where
  pub whole : Whole js
  pub on_time : (w : Row) → Memᴰ w (dispatch js) → late w ≡ false

-- it is legal, all its jobs run for C, and it makes a job late
pub record MakesLate (ts : List Task) (js : List Job) : Type 0 where
  pub legal : Legal ts js
  pub for_c : (j : Job) → Memᴰ j js → j.run ≡ (task_at ts j.task).C
  pub whole : Whole js
  pub late_row : (w : Row) × Memᴰ w (dispatch js) × (late w ≡ true)

-- when each verdict is due, with what it carries
abbrev pub Condition : List Task → Verdict → Type 0
Condition ts (Verdict.Misses L b over) = Least (λ K. fails K ts) L × (b ≡ blocker L ts) × (over ≡ total_due L ts + longest_wait L ts - L)
Condition ts (Verdict.Meets σ) = Nowhere (λ K. fails K ts) × Least (λ t. closes t ts) σ
Condition ts Verdict.TooFar = Nowhere (λ K. fails K ts) × Nowhere (λ t. closes t ts)

-- what each verdict promises of the patterns
abbrev pub Kept : List Task → Verdict → Type 0
Kept ts (Verdict.Meets σ) = Least (λ t. closes t ts) σ × ((js : List Job) → Legal ts js → InTime js)
Kept ts (Verdict.Misses L b over) = MakesLate ts (named L ts)
Kept ts Verdict.TooFar = Nowhere (λ K. fails K ts) × Nowhere (λ t. closes t ts)

-- the verdict call's answer, kept
abbrev pub KeptBy : List ℕ → Result Verdict Refusal → Type 0
KeptBy table (Ok v) = Kept (tasks_of table) v
KeptBy table (Err r) = Unit {0}

-- each verdict is given exactly on its condition, so that one is always due and never two; and it is kept,
-- for every table and for tasks with C, D and T of 1 or more without an upper bound
pub record TrueOfEveryPattern : Type 0 where
  pub exactly : (ts : List Task) (v : Verdict) → (verdict ts ≡ v) ↔ Condition ts v
  pub one_due : (ts : List Task) → One Verdict (Condition ts)
  pub kept : (ts : List Task) → AllSound ts → Kept ts (verdict ts)
  pub kept_table : (table : List ℕ) → table_refusal table ≡ None → Kept (tasks_of table) (verdict (tasks_of table))
  pub kept_by : (table : List ℕ) → KeptBy table (verdict_answer table)

-- THE C CALL in one sentence. Of a text whose first set was read and is in range, a statement about its tasks
abbrev pub WasRead : List ℕ → (List Task → Type 0) → Type 0
WasRead text P = (ws : List ℕ) × (after : List ℕ) × (read_set text ≡ took ws after) × Fine ws × P (tasks_of ws)

-- 100: every legal pattern is in time; 101: the named pattern makes a job late; 102 on its condition; else 4 or 7, and no other number
pub data CallSays (text : List ℕ) : ℕ → Type 0 where
  meets : WasRead text (λ ts. (js : List Job) → Legal ts js → InTime js) → CallSays text 100
  misses : WasRead text (λ ts. (L : ℕ) × Least (λ K. fails K ts) L × MakesLate ts (named L ts)) → CallSays text 101
  too_far : WasRead text (λ ts. Nowhere (λ K. fails K ts) × Nowhere (λ t. closes t ts)) → CallSays text 102
  bad_word : {ws after : List ℕ} {i : ℕ} → read_set text ≡ took ws after → FirstOut ws i → CallSays text 4
  bad_line : {l : ℕ} → read_set text ≡ stop l → CallSays text 7

-- so it is for every text
pub record CallForC : Type 0 where
  pub says : (text : List ℕ) → CallSays text (check_number text)
  pub safe : (text : List ℕ) → check_number text ≡ 100 → WasRead text (λ ts. (js : List Job) → Legal ts js → InTime js)

-- BY HOW MUCH. At every "misses" the excess is 1 or more. In a set that was changed its length passes exactly if nothing is due by it any more, or
-- Due(L) + Wait(L) fell by the excess or more. The excess is below the sum of the executions, and just below it where every deadline is 1; so for a table
-- it is at most 4,194,239, as 64 tasks of (65535,1,1) have it. The number of the C call is 101 whatever it is
pub record ByHowMuch : Type 0 where
  pub one_or_more : (ts : List Task) (L : ℕ) (b : Option ℕ) (over : ℕ) → verdict ts ≡ Verdict.Misses L b over → 1 ≤ over
  pub passes_if : (ts : List Task) (L : ℕ) (b : Option ℕ) (over : ℕ) → verdict ts ≡ Verdict.Misses L b over
      → (changed : List Task) → (fails L changed ≡ false) ↔ ((total_due L changed ≡ 0) ⊎ (total_due L changed + longest_wait L changed + over ≤ total_due L ts + longest_wait L ts))
  pub below : (ts : List Task) → AllSound ts → (L : ℕ) (b : Option ℕ) (over : ℕ) → verdict ts ≡ Verdict.Misses L b over → over < executions ts
  pub just_below : (ts : List Task) → ((τ : Task) → Memᴰ τ ts → τ.D ≡ 1) → 2 ≤ executions ts
      → verdict ts ≡ Verdict.Misses 1 None (executions ts - 1)
  pub of_a_call : (table : List ℕ) (v : Verdict) → verdict_answer table ≡ Ok v → verdict (tasks_of table) ≡ v
  pub at_most : (table : List ℕ) (L : ℕ) (b : Option ℕ) (over : ℕ) → verdict_answer table ≡ Ok (Verdict.Misses L b over) → over ≤ 4194239
  pub reached : verdict_answer (set (replicate 64 (65535, 1, 1))) ≡ Ok (Verdict.Misses 1 None 4194239)
  pub same_number : (L : ℕ) (b : Option ℕ) (over : ℕ) → number_told (judged_told (Verdict.Misses L b over)) ≡ 101

-- THE GENERATOR. What the long kernel does, task k of the set and its last: its C is at most every other D and equal to one of them, and its D is
-- above all of theirs. So at the length L of its C a tick is due, and all but one may be waited for: L fails, except exactly where just one tick is due
-- and no other kernel holds the tile for longer
pub record HoldsTheTile (ts : List Task) (k : ℕ) : Type 0 where
  pub last : length ts ≡ suc k
  pub c_most : (i : ℕ) → i < k → (task_at ts k).C ≤ (task_at ts i).D
  pub c_one : (i : ℕ) × (i < k) × ((task_at ts k).C ≡ (task_at ts i).D)
  pub d_above : (i : ℕ) → i < k → (task_at ts i).D < (task_at ts k).D
  pub due : 1 ≤ total_due (task_at ts k).C ts
  pub waits : (task_at ts k).C - 1 ≤ longest_wait (task_at ts k).C ts
  pub passes : (fails (task_at ts k).C ts ≡ false) ↔ ((total_due (task_at ts k).C ts ≡ 1) × (longest_wait (task_at ts k).C ts ≡ (task_at ts k).C - 1))

-- every set drawn is one that the verdict doesn't refuse, by the definitions and of whatever meets the call's contract; the last task has a D of
-- 65,535 exactly where the number is a multiple of 4 and the set has two tasks or more, and then it holds the tile; and the texts of sets are what the
-- check reads, set after set
pub record SetsDrawn : Type 0 where
  pub not_refused : (s number : ℕ) → (v : Verdict) × (verdict_answer (words_drawn number s) ≡ Ok v)
  pub drawn_is_judged : (s number n after : ℕ) (table exit : List ℕ) → DrawsSet s number table (Ok n) after exit
      → (v : Verdict) × (verdict_answer (take (4 * n) exit) ≡ Ok v)
  pub long_where : (s number k : ℕ) → length (set_drawn number s) ≡ suc k
      → ((task_at (set_drawn number s) k).D ≡ 65535) ↔ ((number % 4 ≡ 0) × (2 ≤ length (set_drawn number s)))
  pub long_kernel : (s number k : ℕ) → length (set_drawn number s) ≡ suc k → (task_at (set_drawn number s) k).D ≡ 65535 → HoldsTheTile (set_drawn number s) k
  pub no_text : (k s : ℕ) → generated 0 k s ≡ []
  pub read_in_turn : (n k s : ℕ) → read_set (generated (suc n) k s) ≡ took (words_drawn k s) (generated n (suc k) (state_after_set s))
  pub in_pieces : (m n k s : ℕ) → generated (m + n) k s ≡ generated m k s ++ generated n (k + m) (state_after_sets m s)

-- THE SHEETS. The sheet of the set (1,2,3) with R 0, byte for byte: the line of the names, then 1,2,3,0, each with CR LF
abbrev pub SheetBytes : Type 0
SheetBytes =
    write_sheet (1 ∷ 2 ∷ 3 ∷ 0 ∷ [])
    ≡ bytes "execution,deadline,period,release" ++ (13 ∷ 10 ∷ 49 ∷ 44 ∷ 50 ∷ 44 ∷ 51 ∷ 44 ∷ 48 ∷ 13 ∷ 10 ∷ [])

-- a sheet that is written from a valid table reads back to it, whatever table it is read into; and the two formats agree: the text written from what it
-- reads to is the text of the table. By the definitions, and of whatever meets the calls' contracts
pub record SheetTrips : Type 0 where
  pub sheet_then_table : (table : List ℕ) → table_refusal table ≡ None → read_sheet (write_sheet table) ≡ tasks table
  pub written_is_read : (table out sheet : List ℕ) (n : ℕ) → WritesSheet table out (Ok n) sheet
      → (room : List ℕ) → length table ≤ length room → (answer : Result ℕ Refusal) (exit : List ℕ) → ReadsSheet (take n sheet) room answer exit
      → (answer ≡ Ok (length table / 4)) × (exit ≡ table ++ drop (length table) room)
  pub formats_agree : (table out sheet : List ℕ) (n : ℕ) → WritesSheet table out (Ok n) sheet
      → (room words : List ℕ) (k : ℕ) → ReadsSheet (take n sheet) room (Ok k) words → write_set (take (4 * k) words) ≡ write_set table
