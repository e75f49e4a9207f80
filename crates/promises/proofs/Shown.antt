-- What the schedule and the pattern give is exactly what the paper's tables have: the rows are those that obey the dispatcher's rules.
use mathlib.Core.Path.{◌≡◌, refl, sym, ap, ◌∙◌}
use mathlib.Core.Logic.{◌↔◌, inl, inr}
use Prim.Native.Nat.{ℕ, ◌+◌, ◌-◌, ◌*◌, ◌≤◌, ◌<◌}
use native.Mathlib.Omega.{arith}
use native.Mathlib.Decide.{dec_lt}
use mathlib.Core.List.{List, ◌++◌}
use mathlib.Core.Bool.{false}
use lib.ListN.{length, drop}
use Rattle.rules.specs.Task.{tasks_of}
use Rattle.rules.specs.Table.{table_refusal}
use Rattle.rules.specs.Told.{Told, schedule_told, pattern_told}
use Rattle.rules.specs.Dispatch.{Job, Row, dispatch, late_job, row_words}
use Rattle.rules.specs.Policy.{Obeys, NamedLate}
use Rattle.rules.specs.Jobs.{planned, concrete, named}
use Rattle.rules.specs.Demand.{total_due, longest_wait, fails, blocker, verdict}
use Rattle.rules.specs.Answers.{timing, schedule_answer, schedule_buffer, is_misses, rows_of, pattern_answer, pattern_buffer}
use Rattle.rules.specs.Calls.{Dispatches, Schedules, Shows}
use Rattle.rules.specs.declared.Plan.{Plan}
use Rattle.rules.specs.declared.Refusal.{Refusal}
use Rattle.rules.specs.declared.Refusal.TheVariants.{TooShort}
use Rattle.rules.specs.declared.Verdict.{Verdict}
use Rattle.rules.proofs.Booleans.{true_is_not_false}
use Rattle.rules.proofs.Tables.{table_sound}
use Rattle.rules.proofs.LateJob.{late_none, late_row}
use Rattle.rules.proofs.Determined.{planned_legal, planned_only, legal_late}
use Rattle.rules.proofs.RowWords.{length_row_words}
use Rattle.rules.proofs.Calls.{counted, dispatch_short, dispatch_rows, schedule_refused, schedule_end, schedule_rows_law, pattern_refused, pattern_none, pattern_rows_law}
use Rattle.promises.specs.Tables.{Least, Nowhere, ScheduleTells, PatternTells}
use Rattle.promises.proofs.Exact.{exact, table_tells, told_table, fine_not, not_fine}
use Rattle.promises.proofs.Kept.{exactly}
use Rattle.std.specs.Prelude.{Option, Some, Result, Ok, Err, None}
use Rattle.rules.specs.declared.Timing.{Timing}

-- the rows of a plan, written: beyond four words a row the buffer stays the same
written : (js : List Job) (out : List ℕ) → 4 * length (dispatch js) ≤ length out
    → Dispatches js out (Ok (timing (length (dispatch js)) (late_job (dispatch js)))) (row_words (dispatch js) ++ drop (4 * length (dispatch js)) out)
written js out h = rw (← length_row_words (dispatch js)) (dispatch_rows js out h)

-- the rows of a plan for the tasks of a table are those that obey the rules
module _ (table : List ℕ) (fine : table_refusal table ≡ None) (p : Plan) where
  abbrev jobs : List Job
  jobs = planned p (tasks_of table)

  obeys : Obeys 0 jobs (dispatch jobs)
  obeys = (planned_only p (tasks_of table) (table_sound table fine) (dispatch jobs)).1 refl

  are_rows : (ws : List Row) → Obeys 0 jobs ws → ws ≡ dispatch jobs
  are_rows ws o = (planned_only p (tasks_of table) (table_sound table fine) ws).0 o

  only_late : (w : Row) → NamedLate (dispatch jobs) w → late_job (dispatch jobs) ≡ Some w.job
  only_late = legal_late (tasks_of table) (table_sound table fine) jobs (planned_legal p (tasks_of table) (table_sound table fine))

-- THE SCHEDULE
module _ (table : List ℕ) (z : ℕ) (out : List ℕ) where
  schedule_given : {t : Told} {a : Result Timing Refusal} {exit : List ℕ} → schedule_told a ≡ t → Schedules table z out a exit
      → (schedule_told (schedule_answer table z out) ≡ t) × (schedule_buffer table z out ≡ exit)
  schedule_given e c = (rw (← c.says) e, sym c.leaves)

  abbrev Scheduled : Type 0
  Scheduled = ScheduleTells table z out (schedule_told (schedule_answer table z out)) (schedule_buffer table z out)

  scheduled : {a : Result Timing Refusal} {exit : List ℕ} → Schedules table z out a exit → ScheduleTells table z out (schedule_told a) exit → Scheduled
  scheduled c h = rw (← c.says, ← c.leaves) h

  abbrev plan : Plan
  plan = Plan.Concrete z

  abbrev rows : List Row
  rows = dispatch (concrete z (tasks_of table))

  -- with rows that fit, by the late job
  module _ (fine : table_refusal table ≡ None) (low : 1 ≤ z) (high : z ≤ 100000) where
    fits : 4 * length rows ≤ length out
        → Schedules table z out (Ok (timing (length rows) (late_job rows))) (row_words rows ++ drop (4 * length rows) out)
    fits h = schedule_rows_law table z out fine low high (written (concrete z (tasks_of table)) out h)

    by_late : 4 * length rows ≤ length out → (o : Option Job) → late_job rows ≡ o
        → ScheduleTells table z out (schedule_told (Ok (timing (length rows) o))) (row_words rows ++ drop (4 * length rows) out)
    by_late h None e = ScheduleTells.on_time (not_fine table fine) low high (obeys table fine plan) h ((late_none rows).0 e)
    by_late h (Some j) e =
        let x = late_row rows j e in
        rw (← x.2) (ScheduleTells.too_late (not_fine table fine) low high (obeys table fine plan) h x.1)

    by_room : Dec (length out < 4 * length rows) → Scheduled
    by_room (yes h) =
        scheduled (schedule_rows_law table z out fine low high (dispatch_short (concrete z (tasks_of table)) out h))
        (ScheduleTells.six (not_fine table fine) low high (obeys table fine plan) h)
    by_room (no h) = let k : 4 * length rows ≤ length out = omega arith in scheduled (fits k) (by_late k (late_job rows) refl)

  schedule_stands : Scheduled
  schedule_stands = go (table_refusal table) refl
    where
      by_end : table_refusal table ≡ None → Dec (z < 1) → Dec (100000 < z) → Scheduled
      by_end e (yes h) far = let q : z ≡ 0 = omega arith in scheduled (schedule_end table z out e (inl q)) (ScheduleTells.five (not_fine table e) (inl q))
      by_end e (no h) (yes k) = scheduled (schedule_end table z out e (inr k)) (ScheduleTells.five (not_fine table e) (inr k))
      by_end e (no h) (no k) = by_room e (omega arith) (omega arith) (dec_lt (length out) (4 * length rows))

      go : (o : Option Refusal) → table_refusal table ≡ o → Scheduled
      go (Some r) e = scheduled (schedule_refused table z out r e) (ScheduleTells.refused (table_tells table r e))
      go None e = by_end e (dec_lt z 1) (dec_lt 100000 z)

  schedule_lines : (t : Told) (exit : List ℕ) → ScheduleTells table z out t exit
      → (schedule_told (schedule_answer table z out) ≡ t) × (schedule_buffer table z out ≡ exit)
  schedule_lines t exit (ScheduleTells.refused x) = let r = told_table table t x in schedule_given r.2 (schedule_refused table z out r.0 r.1)
  schedule_lines t exit (ScheduleTells.five f h) = schedule_given refl (schedule_end table z out (fine_not table f) h)
  schedule_lines t exit (ScheduleTells.six {rows = ws} f low high o h) =
      let fine = fine_not table f in
      let e = are_rows table fine plan ws o in
      schedule_given refl (schedule_rows_law table z out fine low high (dispatch_short (concrete z (tasks_of table)) out (rw e at h)))
  schedule_lines t exit (ScheduleTells.on_time {rows = ws} f low high o h n) =
      let fine = fine_not table f in
      let e = are_rows table fine plan ws o in
      let none_late = (late_none rows).1 (rw e at n) in
      rw e (schedule_given (rw none_late) (fits fine low high (rw e at h)))
  schedule_lines t exit (ScheduleTells.too_late {rows = ws} {w = w} f low high o h n) =
      let fine = fine_not table f in
      let e = are_rows table fine plan ws o in
      let its_job = only_late table fine plan w (rw e at n) in
      rw e (schedule_given (rw its_job) (fits fine low high (rw e at h)))

  pub schedule_tells : (t : Told) (exit : List ℕ)
      → ((schedule_told (schedule_answer table z out) ≡ t) × (schedule_buffer table z out ≡ exit)) ↔ ScheduleTells table z out t exit
  schedule_tells = exact (ScheduleTells table z out) schedule_stands schedule_lines

-- THE PATTERN
module _ (table out : List ℕ) where
  pattern_given : {t : Told} {a : Result ℕ Refusal} {exit : List ℕ} → pattern_told a ≡ t → Shows table out a exit
      → (pattern_told (pattern_answer table out) ≡ t) × (pattern_buffer table out ≡ exit)
  pattern_given e c = (rw (← c.says) e, sym c.leaves)

  abbrev Patterned : Type 0
  Patterned = PatternTells table out (pattern_told (pattern_answer table out)) (pattern_buffer table out)

  patterned : {a : Result ℕ Refusal} {exit : List ℕ} → Shows table out a exit → PatternTells table out (pattern_told a) exit → Patterned
  patterned c h = rw (← c.says, ← c.leaves) h

  abbrev named_plan : ℕ → Plan
  named_plan L = Plan.Named L (blocker L (tasks_of table))

  -- where a length fails, its rows
  module _ (fine : table_refusal table ≡ None) (L : ℕ) (least : Least (λ K. fails K (tasks_of table)) L) where
    misses : verdict (tasks_of table) ≡ Verdict.Misses L (blocker L (tasks_of table)) (total_due L (tasks_of table) + longest_wait L (tasks_of table) - L)
    misses = (exactly (tasks_of table) (Verdict.Misses L (blocker L (tasks_of table)) _)).1 (least, refl, refl)

    shown : {a : Result Timing Refusal} {exit : List ℕ} → Dispatches (named L (tasks_of table)) out a exit → Shows table out (rows_of a) exit
    shown {a} {exit} d = pattern_rows_law table out {answer = a} {exit = exit} fine (rw misses) (rw misses d)

    short : length out < 4 * length (dispatch (named L (tasks_of table))) → Shows table out (Err TooShort) out
    short h = shown (dispatch_short (named L (tasks_of table)) out h)

    rows_shown : 4 * length (dispatch (named L (tasks_of table))) ≤ length out
        → Shows table out (Ok (length (dispatch (named L (tasks_of table)))))
        (row_words (dispatch (named L (tasks_of table))) ++ drop (4 * length (dispatch (named L (tasks_of table)))) out)
    rows_shown h =
        rw (← counted (length (dispatch (named L (tasks_of table)))) (late_job (dispatch (named L (tasks_of table)))))
        (shown (written (named L (tasks_of table)) out h))

    by_space : Dec (length out < 4 * length (dispatch (named L (tasks_of table)))) → Patterned
    by_space (yes h) = patterned (short h) (PatternTells.six (not_fine table fine) least (obeys table fine (named_plan L)) h)
    by_space (no h) =
        let k : 4 * length (dispatch (named L (tasks_of table))) ≤ length out = omega arith in
        patterned (rows_shown k) (PatternTells.shown (not_fine table fine) least (obeys table fine (named_plan L)) k)

  -- where none does, 8
  none_fails : (fine : table_refusal table ≡ None) → is_misses (verdict (tasks_of table)) ≡ false → Nowhere (λ K. fails K (tasks_of table)) → Patterned
  none_fails fine e n = patterned (pattern_none table out fine e) (PatternTells.eight (not_fine table fine) n)

  -- a verdict that finds no length that fails isn't "misses"
  isnt_misses : Nowhere (λ K. fails K (tasks_of table)) → is_misses (verdict (tasks_of table)) ≡ false
  isnt_misses n = go (verdict (tasks_of table)) refl
    where
      go : (v : Verdict) → verdict (tasks_of table) ≡ v → is_misses v ≡ false
      go (Verdict.Misses L b over) e =
          let h = ((exactly (tasks_of table) (Verdict.Misses L b over)).0 e).0 in
          true_is_not_false (sym h.2 ∙ n L h.0 h.1)
      go (Verdict.Meets σ) e = refl
      go Verdict.TooFar e = refl

  pattern_stands : Patterned
  pattern_stands = go (table_refusal table) refl
    where
      by_verdict : table_refusal table ≡ None → (v : Verdict) → verdict (tasks_of table) ≡ v → Patterned
      by_verdict e (Verdict.Misses L b over) f =
          by_space e L ((exactly (tasks_of table) (Verdict.Misses L b over)).0 f).0 (dec_lt (length out) (4 * length (dispatch (named L (tasks_of table)))))
      by_verdict e (Verdict.Meets σ) f = none_fails e (ap is_misses f) ((exactly (tasks_of table) (Verdict.Meets σ)).0 f).0
      by_verdict e Verdict.TooFar f = none_fails e (ap is_misses f) ((exactly (tasks_of table) Verdict.TooFar).0 f).0

      go : (o : Option Refusal) → table_refusal table ≡ o → Patterned
      go (Some r) e = patterned (pattern_refused table out r e) (PatternTells.refused (table_tells table r e))
      go None e = by_verdict e (verdict (tasks_of table)) refl

  pattern_lines : (t : Told) (exit : List ℕ) → PatternTells table out t exit → (pattern_told (pattern_answer table out) ≡ t) × (pattern_buffer table out ≡ exit)
  pattern_lines t exit (PatternTells.refused x) = let r = told_table table t x in pattern_given r.2 (pattern_refused table out r.0 r.1)
  pattern_lines t exit (PatternTells.eight f n) = pattern_given refl (pattern_none table out (fine_not table f) (isnt_misses n))
  pattern_lines t exit (PatternTells.six {L = L} {rows = ws} f l o h) =
      let e = are_rows table (fine_not table f) (named_plan L) ws o in
      pattern_given refl (short (fine_not table f) L l (rw e at h))
  pattern_lines t exit (PatternTells.shown {L = L} {rows = ws} f l o h) =
      let e = are_rows table (fine_not table f) (named_plan L) ws o in
      rw e (pattern_given refl (rows_shown (fine_not table f) L l (rw e at h)))

  pub pattern_tells : (t : Told) (exit : List ℕ)
      → ((pattern_told (pattern_answer table out) ≡ t) × (pattern_buffer table out ≡ exit)) ↔ PatternTells table out t exit
  pattern_tells = exact (PatternTells table out) pattern_stands pattern_lines
