-- Of each call the answer, and every lent buffer at exit, as functions of the inputs; refusals in the documents' order.
use Rattle.std.specs.Prelude.{ℕ, ◌*◌, ◌/◌, List, [], ◌∷◌, Bool, true, false, not, ◌||◌, ltb, eqb, length, Option, Some, None, Result, Ok, Err}
use Rattle.rules.specs.Task.{tasks_of}
use Rattle.rules.specs.Numbers.{end_most}
use Rattle.rules.specs.Refusals.{◌when◌, first_of, answering, lent}
use Rattle.rules.specs.Table.{table_refusal}
use Rattle.rules.specs.Dispatch.{Job, Row, dispatch, late_job, row_words}
use Rattle.rules.specs.Jobs.{concrete, named}
use Rattle.rules.specs.Demand.{verdict}
use Rattle.rules.specs.Told.{number_told, verdict_told}
use Rattle.rules.specs.Text.{Lines, took, stop, read_set, words_read, rest_read, write_set}
use Rattle.rules.specs.Sheet.{Sheet, tasks, wrong, no_header, read_sheet, sheet_words, write_sheet}
use Rattle.rules.specs.declared.Refusal.{Refusal}
use Rattle.rules.specs.declared.Refusal.TheVariants.{BadEnd, TooShort, BadLine, NotMisses, NoHeader, BadRecord, NoRecord}
use Rattle.rules.specs.declared.Verdict.{Verdict}
use Rattle.rules.specs.declared.Timing.{Timing}

-- refusal 7, with the number of the first line missing or not as due
abbrev pub line_refusal : Lines → Option Refusal
line_refusal (took ws rest) = None
line_refusal (stop l) = Some (BadLine l)

-- THE READER. Refusals 7, 6
unfoldable pub read_refusal : List ℕ → List ℕ → Option Refusal
read_refusal text table =
    first_of (line_refusal (read_set text) ∷ (TooShort when ltb (length table) (length (words_read (read_set text)))) ∷ [])

-- it answers the task count
unfoldable pub read_answer : List ℕ → List ℕ → Result ℕ Refusal
read_answer text table = answering (read_refusal text table) Err (Ok (length (words_read (read_set text)) / 4))

-- writes the set's words to the start of the lent table
unfoldable pub read_table : List ℕ → List ℕ → List ℕ
read_table text table = lent (read_refusal text table) (words_read (read_set text)) table

-- and hands back the bytes just after the set; refusing, the whole text
unfoldable pub read_rest : List ℕ → List ℕ → List ℕ
read_rest text table = answering (read_refusal text table) (λ r. text) (rest_read (read_set text))

-- A WRITER of bytes that are made of a table. Refusals 1, 2, 3, 4, 6
unfoldable pub make_refusal : (List ℕ → List ℕ) → List ℕ → List ℕ → Option Refusal
make_refusal make table out = first_of (table_refusal table ∷ (TooShort when ltb (length out) (length (make table))) ∷ [])

-- it answers their length
unfoldable pub make_answer : (List ℕ → List ℕ) → List ℕ → List ℕ → Result ℕ Refusal
make_answer make table out = answering (make_refusal make table out) Err (Ok (length (make table)))

-- and writes them to the start of the lent buffer
unfoldable pub make_buffer : (List ℕ → List ℕ) → List ℕ → List ℕ → List ℕ
make_buffer make table out = lent (make_refusal make table out) (make table) out

-- THE WRITER makes the text of a set
abbrev pub write_answer : List ℕ → List ℕ → Result ℕ Refusal
write_answer = make_answer write_set

abbrev pub write_buffer : List ℕ → List ℕ → List ℕ
write_buffer = make_buffer write_set

-- THE SHEET'S READER. Refusals 13, 14 with the number of the first record that is not as due, 15
abbrev pub record_refusal : Sheet → Option Refusal
record_refusal no_header = Some NoHeader
record_refusal (wrong l) = Some (BadRecord l)
record_refusal (tasks []) = Some NoRecord
record_refusal (tasks (w ∷ ws)) = None

-- then 6
unfoldable pub read_sheet_refusal : List ℕ → List ℕ → Option Refusal
read_sheet_refusal sheet table =
    first_of (record_refusal (read_sheet sheet) ∷ (TooShort when ltb (length table) (length (sheet_words (read_sheet sheet)))) ∷ [])

-- it answers the task count
unfoldable pub read_sheet_answer : List ℕ → List ℕ → Result ℕ Refusal
read_sheet_answer sheet table =
    answering (read_sheet_refusal sheet table) Err (Ok (length (sheet_words (read_sheet sheet)) / 4))

-- and writes the tasks' words to the start of the lent table
unfoldable pub read_sheet_table : List ℕ → List ℕ → List ℕ
read_sheet_table sheet table = lent (read_sheet_refusal sheet table) (sheet_words (read_sheet sheet)) table

-- THE SHEET'S WRITER makes a sheet
abbrev pub write_sheet_answer : List ℕ → List ℕ → Result ℕ Refusal
write_sheet_answer = make_answer write_sheet

abbrev pub write_sheet_buffer : List ℕ → List ℕ → List ℕ
write_sheet_buffer = make_buffer write_sheet

-- THE DISPATCHER, of any jobs. Refusal 6
unfoldable pub dispatch_refusal : List Job → List ℕ → Option Refusal
dispatch_refusal js out = TooShort when ltb (length out) (4 * length (dispatch js))

-- on time with the row count; or late, with the task, number and deadline of the late job whose deadline is least
abbrev pub timing : ℕ → Option Job → Timing
timing n None = record { rows = n; late = None }
timing n (Some j) = record { rows = n; late = Some (record { task = j.task; job = j.number; deadline = j.deadline }) }

-- it answers that
unfoldable pub dispatch_answer : List Job → List ℕ → Result Timing Refusal
dispatch_answer js out = answering (dispatch_refusal js out) Err (Ok (timing (length (dispatch js)) (late_job (dispatch js))))

-- and writes the rows to the start of the lent buffer
unfoldable pub dispatch_buffer : List Job → List ℕ → List ℕ
dispatch_buffer js out = lent (dispatch_refusal js out) (row_words (dispatch js)) out

-- THE CONCRETE SCHEDULE. Its rows
abbrev pub schedule_rows : List ℕ → ℕ → List Row
schedule_rows table z = dispatch (concrete z (tasks_of table))

-- refusals 1, 2, 3, 4, 5, 6
unfoldable pub schedule_refusal : List ℕ → ℕ → List ℕ → Option Refusal
schedule_refusal table z out =
    first_of
    (table_refusal table
    ∷ (BadEnd when (eqb z 0 || ltb end_most z))
    ∷ dispatch_refusal (concrete z (tasks_of table)) out
    ∷ [])

-- it answers as the dispatcher does
unfoldable pub schedule_answer : List ℕ → ℕ → List ℕ → Result Timing Refusal
schedule_answer table z out =
    answering (schedule_refusal table z out) Err
    (Ok (timing (length (schedule_rows table z)) (late_job (schedule_rows table z))))

-- and writes the rows to the start of the lent buffer
unfoldable pub schedule_buffer : List ℕ → ℕ → List ℕ → List ℕ
schedule_buffer table z out = lent (schedule_refusal table z out) (row_words (schedule_rows table z)) out

-- THE VERDICT. Refusals 1 to 4
unfoldable pub verdict_answer : List ℕ → Result Verdict Refusal
verdict_answer table = answering (table_refusal table) Err (Ok (verdict (tasks_of table)))

-- THE PATTERN BEHIND A "MISSES"
abbrev pub is_misses : Verdict → Bool
is_misses (Verdict.Meets σ) = false
is_misses (Verdict.Misses L b over) = true
is_misses Verdict.TooFar = false

-- the jobs of the pattern that a verdict names
abbrev pub named_by : Verdict → List ℕ → List Job
named_by (Verdict.Meets σ) table = []
named_by (Verdict.Misses L b over) table = named L (tasks_of table)
named_by Verdict.TooFar table = []

-- its rows
abbrev pub pattern_rows : List ℕ → List Row
pattern_rows table = dispatch (named_by (verdict (tasks_of table)) table)

-- refusals 1, 2, 3, 4, 8, 6
unfoldable pub pattern_refusal : List ℕ → List ℕ → Option Refusal
pattern_refusal table out =
    first_of
    (table_refusal table
    ∷ (NotMisses when not (is_misses (verdict (tasks_of table))))
    ∷ dispatch_refusal (named_by (verdict (tasks_of table)) table) out
    ∷ [])

-- the row count in a dispatcher's answer
abbrev pub rows_of : Result Timing Refusal → Result ℕ Refusal
rows_of (Ok t) = Ok t.rows
rows_of (Err r) = Err r

-- it answers the row count
unfoldable pub pattern_answer : List ℕ → List ℕ → Result ℕ Refusal
pattern_answer table out = answering (pattern_refusal table out) Err (Ok (length (pattern_rows table)))

-- and writes the rows to the start of the lent buffer
unfoldable pub pattern_buffer : List ℕ → List ℕ → List ℕ
pattern_buffer table out = lent (pattern_refusal table out) (row_words (pattern_rows table)) out

-- THE FIRST SET OF A TEXT. The refusal of the reading or of the table, at once
unfoldable pub first_refusal : List ℕ → Option Refusal
first_refusal text = first_of (line_refusal (read_set text) ∷ table_refusal (words_read (read_set text)) ∷ [])

-- what is said of it: that refusal, or the verdict
unfoldable pub first_answer : List ℕ → Result Verdict Refusal
first_answer text =
    answering (first_refusal text) Err (Ok (verdict (tasks_of (words_read (read_set text)))))

-- THE C CALL. One number: 100, 101 or 102 for the first set, or the refusal's
unfoldable pub check_number : List ℕ → ℕ
check_number text = number_told (verdict_told (first_answer text))
