-- What each call gives, case by case: each refusal in its turn, and the result. Callers cite these laws and open no definition.
use mathlib.Core.Path.{◌≡◌, refl, sym, ap, ◌∙◌}
use mathlib.Core.Logic.{◌⊎◌, inl, inr}
use Prim.Native.Nat.{ℕ, ◌*◌, ◌/◌, ◌≤◌, ◌<◌}
use native.Mathlib.Omega.{arith}
use mathlib.Core.List.{List, [], ◌∷◌, ◌++◌}
use mathlib.Core.Bool.{true, false}
use lib.ListN.{length, drop}
use borrow.Author.Tests.{lt-ltb, le-ltb, eq-eqb, ne_eqb}
use Rattle.rules.specs.Numbers.{end_most}
use Rattle.rules.specs.Task.{tasks_of}
use Rattle.rules.specs.Refusals.{first_of, answering}
use Rattle.rules.specs.Table.{table_refusal, table_answer, ValidTable}
use Rattle.rules.specs.Dispatch.{Job, dispatch, late_job, row_words}
use Rattle.rules.specs.Jobs.{concrete}
use Rattle.rules.specs.Demand.{verdict}
use Rattle.rules.specs.Text.{took, stop, read_set}
use Rattle.rules.specs.Told.{number_told, verdict_told}
use Rattle.rules.specs.Answers.{read_refusal, read_answer, read_table, read_rest, make_refusal, make_answer, make_buffer, dispatch_refusal, timing, dispatch_answer, dispatch_buffer, schedule_refusal, schedule_answer, schedule_buffer, verdict_answer, is_misses, named_by, rows_of, pattern_refusal, pattern_answer, pattern_buffer, first_refusal, first_answer, check_number}
use Rattle.rules.specs.Report.{set_lines, set_rest, report_refusal, report_answer, report_buffer}
use Rattle.rules.specs.Calls.{Reads, Makes, Dispatches, Schedules, Shows, Reports}
use Rattle.rules.specs.declared.Refusal.{Refusal}
use Rattle.rules.specs.declared.Refusal.TheVariants.{BadEnd, TooShort, BadLine, NotMisses}
use Rattle.rules.proofs.Tables.{valid_of}
use Rattle.std.specs.Prelude.{Option, Some, None, Result, Ok, Err}
use Rattle.rules.specs.declared.Timing.{Timing}

-- a list of one refusal is that refusal
pub alone : (o : Option Refusal) → first_of (o ∷ []) ≡ o
alone None = refl
alone (Some r) = refl

-- the row count in what the dispatcher answers
pub counted : (n : ℕ) (o : Option Job) → rows_of (Ok (timing n o)) ≡ Ok n
counted n None = refl
counted n (Some j) = refl

count : (js : List Job) (o : Option Refusal)
    → rows_of (answering o Err (Ok (timing (length (dispatch js)) (late_job (dispatch js))))) ≡ answering o Err (Ok (length (dispatch js)))
count js None = counted (length (dispatch js)) (late_job (dispatch js))
count js (Some r) = refl

-- THE TABLE
module _ (w : List ℕ) where
  -- an answer Err: it is refused so
  pub refused_by : {a : Result (Unit {0}) Refusal} (r : Refusal) → a ≡ table_answer w → a ≡ Err r → table_refusal w ≡ Some r
  unfolding table_answer
  refused_by r e f = go (table_refusal w) refl (sym f ∙ e)
    where
      go : (o : Option Refusal) → table_refusal w ≡ o → Err r ≡ answering o Err (Ok (tt {0})) → table_refusal w ≡ Some r
      go None p q = let z : ◌≡◌ {A = ℕ} 0 1 = cc in absurd (omega arith)
      go (Some s) p q = cc

  -- an answer Ok: it is not refused
  pub not_refused : {a : Result (Unit {0}) Refusal} → a ≡ table_answer w → a ≡ Ok (tt {0}) → table_refusal w ≡ None
  unfolding table_answer
  not_refused e f = go (table_refusal w) refl (sym f ∙ e)
    where
      go : (o : Option Refusal) → table_refusal w ≡ o → Ok (tt {0}) ≡ answering o Err (Ok (tt {0})) → table_refusal w ≡ None
      go None p q = p
      go (Some s) p q = let z : ◌≡◌ {A = ℕ} 0 1 = cc in absurd (omega arith)

  -- and so its tasks are in bounds
  pub in_bounds : {a : Result (Unit {0}) Refusal} → a ≡ table_answer w → a ≡ Ok (tt {0}) → ValidTable w
  in_bounds e f = valid_of w (not_refused e f)

-- THE READER
module _ (text table : List ℕ) where
  -- 7: a line is missing or not as due
  pub read_stops : (l : ℕ) → read_set text ≡ stop l → Reads text table (Err (BadLine l)) text table
  unfolding read_refusal read_answer read_table read_rest
  read_stops l e = record { says = rw e; hands_back = rw e; leaves = rw e }

  -- 6: the table is shorter than the set
  pub read_short : (ws rest : List ℕ) → read_set text ≡ took ws rest → length table < length ws → Reads text table (Err TooShort) text table
  unfolding read_refusal read_answer read_table read_rest
  read_short ws rest e h =
      let s = lt-ltb (length table) (length ws) h in
      record { says = rw (e, s); hands_back = rw (e, s); leaves = rw (e, s) }

  -- the set
  pub read_set_law : (ws rest : List ℕ) → read_set text ≡ took ws rest → length ws ≤ length table
      → Reads text table (Ok (length ws / 4)) rest (ws ++ drop (length ws) table)
  unfolding read_refusal read_answer read_table read_rest
  read_set_law ws rest e h =
      let s = le-ltb (length table) (length ws) h in
      record { says = rw (e, s); hands_back = rw (e, s); leaves = rw (e, s) }

-- A WRITER
module _ {make : List ℕ → List ℕ} (table out : List ℕ) where
  -- 1 to 4: the table's
  pub write_refused : (r : Refusal) → table_refusal table ≡ Some r → Makes make table out (Err r) out
  unfolding make_refusal make_answer make_buffer
  write_refused r e = record { says = rw e; leaves = rw e }

  -- 6: the buffer is shorter than what is made
  pub write_short : table_refusal table ≡ None → length out < length (make table) → Makes make table out (Err TooShort) out
  unfolding make_refusal make_answer make_buffer
  write_short e h =
      let s = lt-ltb (length out) (length (make table)) h in
      record { says = rw (e, s); leaves = rw (e, s) }

  -- what is made
  pub write_made : table_refusal table ≡ None → length (make table) ≤ length out
      → Makes make table out (Ok (length (make table))) (make table ++ drop (length (make table)) out)
  unfolding make_refusal make_answer make_buffer
  write_made e h =
      let s = le-ltb (length out) (length (make table)) h in
      record { says = rw (e, s); leaves = rw (e, s) }

-- THE DISPATCHER
module _ (js : List Job) (out : List ℕ) where
  -- 6: the buffer is shorter than the rows
  pub dispatch_short : length out < 4 * length (dispatch js) → Dispatches js out (Err TooShort) out
  unfolding dispatch_refusal dispatch_answer dispatch_buffer
  dispatch_short h =
      let s = lt-ltb (length out) (4 * length (dispatch js)) h in
      record { says = rw s; leaves = rw s }

  -- the rows
  pub dispatch_rows : 4 * length (dispatch js) ≤ length out
      → Dispatches js out (Ok (timing (length (dispatch js)) (late_job (dispatch js)))) (row_words (dispatch js) ++ drop (length (row_words (dispatch js))) out)
  unfolding dispatch_refusal dispatch_answer dispatch_buffer
  dispatch_rows h =
      let s = le-ltb (length out) (4 * length (dispatch js)) h in
      record { says = rw s; leaves = rw s }

-- THE CONCRETE SCHEDULE
module _ (table : List ℕ) (z : ℕ) (out : List ℕ) where
  -- 1 to 4: the table's
  pub schedule_refused : (r : Refusal) → table_refusal table ≡ Some r → Schedules table z out (Err r) out
  unfolding schedule_refusal schedule_answer schedule_buffer
  schedule_refused r e = record { says = rw e; leaves = rw e }

  -- 5: Z is 0 or above 100,000
  pub schedule_end : table_refusal table ≡ None → (z ≡ 0) ⊎ (100000 < z) → Schedules table z out (Err BadEnd) out
  unfolding schedule_refusal schedule_answer schedule_buffer
  schedule_end e (inl h) = record { says = rw (e, eq-eqb z 0 h); leaves = rw (e, eq-eqb z 0 h) }
  schedule_end e (inr h) =
      let a = ne_eqb z 0 (λ p. omega arith) in
      let b = lt-ltb end_most z h in
      record { says = rw (e, a, b); leaves = rw (e, a, b) }

  -- 6, or the rows: as the dispatcher does
  pub schedule_rows_law : {answer : Result Timing Refusal} {exit : List ℕ} → table_refusal table ≡ None → 1 ≤ z → z ≤ 100000
      → Dispatches (concrete z (tasks_of table)) out answer exit → Schedules table z out answer exit
  unfolding schedule_refusal schedule_answer schedule_buffer dispatch_answer dispatch_buffer
  schedule_rows_law {answer} {exit} e low high d =
      let r : schedule_refusal table z out ≡ dispatch_refusal (concrete z (tasks_of table)) out =
      rw (e, ne_eqb z 0 (λ p. omega arith), le-ltb end_most z high) (alone (dispatch_refusal (concrete z (tasks_of table)) out))
      in
      record { says = rw r d.says; leaves = rw r d.leaves }

-- THE VERDICT
-- 1 to 4: the table's
pub verdict_refused : (table : List ℕ) (r : Refusal) → table_refusal table ≡ Some r → verdict_answer table ≡ Err r
unfolding verdict_answer
verdict_refused table r e = rw e

-- else the verdict
pub verdict_judged : (table : List ℕ) → table_refusal table ≡ None → verdict_answer table ≡ Ok (verdict (tasks_of table))
unfolding verdict_answer
verdict_judged table e = rw e

-- THE PATTERN
module _ (table out : List ℕ) where
  -- 1 to 4: the table's
  pub pattern_refused : (r : Refusal) → table_refusal table ≡ Some r → Shows table out (Err r) out
  unfolding pattern_refusal pattern_answer pattern_buffer
  pattern_refused r e = record { says = rw e; leaves = rw e }

  -- 8: the verdict isn't "misses"
  pub pattern_none : table_refusal table ≡ None → is_misses (verdict (tasks_of table)) ≡ false → Shows table out (Err NotMisses) out
  unfolding pattern_refusal pattern_answer pattern_buffer
  pattern_none e h = record { says = rw (e, h); leaves = rw (e, h) }

  -- 6, or the rows: as the dispatcher does with the jobs that the verdict names
  pub pattern_rows_law : {answer : Result Timing Refusal} {exit : List ℕ} → table_refusal table ≡ None → is_misses (verdict (tasks_of table)) ≡ true
      → Dispatches (named_by (verdict (tasks_of table)) table) out answer exit → Shows table out (rows_of answer) exit
  unfolding pattern_refusal pattern_answer pattern_buffer dispatch_answer dispatch_buffer
  pattern_rows_law {answer} {exit} e v d =
      let js = named_by (verdict (tasks_of table)) table in
      let r : pattern_refusal table out ≡ dispatch_refusal js out = rw (e, v) (alone (dispatch_refusal js out)) in
      record { says = rw r (ap rows_of d.says ∙ count js (dispatch_refusal js out)); leaves = rw r d.leaves }

-- THE FIRST SET OF A TEXT, and the call for C
module _ (text : List ℕ) where
  -- 7: a line is missing or not as due
  pub first_stops : (l : ℕ) → read_set text ≡ stop l → first_answer text ≡ Err (BadLine l)
  unfolding first_refusal first_answer
  first_stops l e = rw e

  -- else what is said of the table that was read
  pub first_read : (ws rest : List ℕ) → read_set text ≡ took ws rest → first_answer text ≡ verdict_answer ws
  unfolding first_refusal first_answer verdict_answer
  first_read ws rest e = rw (e, alone (table_refusal ws))

  -- the number of that answer
  pub check_number_law : check_number text ≡ number_told (verdict_told (first_answer text))
  unfolding check_number
  check_number_law = refl

-- THE REPORT OF ONE SET
module _ (n : ℕ) (text out : List ℕ) where
  -- 6: the buffer is shorter than the lines
  pub report_short : length out < length (set_lines n text) → Reports n text out (Err TooShort) out
  unfolding report_refusal report_answer report_buffer
  report_short h =
      let s = lt-ltb (length out) (length (set_lines n text)) h in
      record { says = rw s; leaves = rw s }

  -- the lines
  pub report_lines : length (set_lines n text) ≤ length out
      → Reports n text out (Ok (record { length = length (set_lines n text); left = length (set_rest text) })) (set_lines n text ++ drop (length (set_lines n text)) out)
  unfolding report_refusal report_answer report_buffer
  report_lines h =
      let s = le-ltb (length out) (length (set_lines n text)) h in
      record { says = rw s; leaves = rw s }
