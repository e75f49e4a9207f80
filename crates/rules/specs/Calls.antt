-- What each call promises: one record a call, its answer and every lent buffer at exit by equations.
use Rattle.std.specs.Prelude.{◌≡◌, ℕ, List, Result}
use Rattle.rules.specs.Dispatch.{Job}
use Rattle.rules.specs.Text.{write_set}
use Rattle.rules.specs.Sheet.{write_sheet}
use Rattle.rules.specs.Answers.{read_answer, read_table, read_rest, make_answer, make_buffer, read_sheet_answer, read_sheet_table, dispatch_answer, dispatch_buffer, schedule_answer, schedule_buffer, pattern_answer, pattern_buffer}
use Rattle.rules.specs.Report.{report_answer, report_buffer}
use Rattle.rules.specs.declared.Refusal.{Refusal}
use Rattle.rules.specs.declared.Timing.{Timing}
use Rattle.rules.specs.declared.Reported.{Reported}

-- the reader: its answer, the rest that it hands back, and the lent table
pub record Reads (text table : List ℕ) (answer : Result ℕ Refusal) (rest exit : List ℕ) : Type 0 where
  pub says : answer ≡ read_answer text table
  pub hands_back : rest ≡ read_rest text table
  pub leaves : exit ≡ read_table text table

-- a writer of what is made of a table: its answer and the lent bytes
pub record Makes (make : List ℕ → List ℕ) (table out : List ℕ) (answer : Result ℕ Refusal) (exit : List ℕ) : Type 0 where
  pub says : answer ≡ make_answer make table out
  pub leaves : exit ≡ make_buffer make table out

-- the writer, of texts
abbrev pub Writes : List ℕ → List ℕ → Result ℕ Refusal → List ℕ → Type 0
Writes = Makes write_set

-- the sheet's reader: its answer and the lent table
pub record ReadsSheet (sheet table : List ℕ) (answer : Result ℕ Refusal) (exit : List ℕ) : Type 0 where
  pub says : answer ≡ read_sheet_answer sheet table
  pub leaves : exit ≡ read_sheet_table sheet table

-- the sheet's writer
abbrev pub WritesSheet : List ℕ → List ℕ → Result ℕ Refusal → List ℕ → Type 0
WritesSheet = Makes write_sheet

-- the dispatcher, of any jobs: its answer and the lent rows
pub record Dispatches (js : List Job) (out : List ℕ) (answer : Result Timing Refusal) (exit : List ℕ) : Type 0 where
  pub says : answer ≡ dispatch_answer js out
  pub leaves : exit ≡ dispatch_buffer js out

-- the concrete schedule: its answer and the lent rows
pub record Schedules (table : List ℕ) (z : ℕ) (out : List ℕ) (answer : Result Timing Refusal) (exit : List ℕ) : Type 0 where
  pub says : answer ≡ schedule_answer table z out
  pub leaves : exit ≡ schedule_buffer table z out

-- the pattern: its answer and the lent rows
pub record Shows (table out : List ℕ) (answer : Result ℕ Refusal) (exit : List ℕ) : Type 0 where
  pub says : answer ≡ pattern_answer table out
  pub leaves : exit ≡ pattern_buffer table out

-- the report of one set: its answer and the lent bytes
pub record Reports (number : ℕ) (text out : List ℕ) (answer : Result Reported Refusal) (exit : List ℕ) : Type 0 where
  pub says : answer ≡ report_answer number text out
  pub leaves : exit ≡ report_buffer number text out
