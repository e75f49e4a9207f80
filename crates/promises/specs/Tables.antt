-- The paper's tables: of each call what it tells (a number with values) and what it leaves in each lent buffer. One definition a call, one line
-- a case, the numbers as figures, in the paper's order. Document 01, "Refusal numbers", "The verdict over all arrivals" and "Dispatch"; document 02, 1/14,
-- 2/14 and 3/14.
use Rattle.std.specs.Prelude.{◌≡◌, ◌⊎◌, ℕ, suc, ◌+◌, ◌-◌, ◌*◌, ◌/◌, ◌%◌, ◌≤◌, ◌<◌, Bool, true, false, length, drop}
use mathlib.Core.List.{List, [], ◌∷◌, ◌++◌, Memᴰ}
use Rattle.rules.specs.declared.Task.{Task}
use Rattle.rules.specs.Task.{tasks_of}
use Rattle.rules.specs.Table.{FirstOut, Fine}
use Rattle.rules.specs.Told.{Told, ◌with◌}
use Rattle.rules.specs.Dispatch.{Row, late, row_words}
use Rattle.rules.specs.Policy.{Obeys, NamedLate}
use Rattle.rules.specs.Jobs.{concrete, named}
use Rattle.rules.specs.Demand.{total_due, longest_wait, fails, closes, Blocks}
use Rattle.rules.specs.Text.{bytes, digits, line, took, stop, read_set}
use Rattle.rules.specs.Report.{set_lines, set_rest}
use Rattle.rules.specs.DrawnSets.{FromSeed}
use Rattle.rules.specs.Sheets.{Header, Tasks, NotDue}

-- x is the least number from 1 to H that passes a test
abbrev pub Least : (ℕ → Bool) → ℕ → Type 0
Least p x = (1 ≤ x) × (x ≤ 100000) × (p x ≡ true) × ((y : ℕ) → 1 ≤ y → y < x → p y ≡ false)

-- no number from 1 to H passes
abbrev pub Nowhere : (ℕ → Bool) → Type 0
Nowhere p = (y : ℕ) → 1 ≤ y → y ≤ 100000 → p y ≡ false

-- A TABLE: 1 it has no word; 2 its length isn't a multiple of 4; 3 its length is above 256; 4 a word is out of its range, with the first such index
pub data TableTells (w : List ℕ) : Told → Type 0 where
  one : length w ≡ 0 → TableTells w (1 with [])
  two : (length w ≡ 0 → ⊥) → (length w % 4 ≡ 0 → ⊥) → TableTells w (2 with [])
  three : (length w ≡ 0 → ⊥) → length w % 4 ≡ 0 → 256 < length w → TableTells w (3 with [])
  four : {i : ℕ} → (length w ≡ 0 → ⊥) → length w % 4 ≡ 0 → length w ≤ 256 → FirstOut w i → TableTells w (4 with (i ∷ []))

-- THE READER: 7 a line of the set is missing or not as due, with the number of the first such line; 6 the table is shorter than the set;
-- else 0 with the task count, the rest from just after the set, and its words at the start of the table
pub data ReaderTells (text table : List ℕ) : Told → List ℕ → List ℕ → Type 0 where
  seven : {l : ℕ} → read_set text ≡ stop l → ReaderTells text table (7 with (l ∷ [])) text table
  six : {ws after : List ℕ} → read_set text ≡ took ws after → length table < length ws → ReaderTells text table (6 with []) text table
  set : {ws after : List ℕ} → read_set text ≡ took ws after → length ws ≤ length table
      → ReaderTells text table (0 with (length ws / 4 ∷ [])) after (ws ++ drop (length ws) table)

-- A WRITER of what is made of a table: 1 to 4; 6 the buffer is shorter than that; else 0 with its length, and it stands at the start of the buffer
pub data WriterTells (make : List ℕ → List ℕ) (table out : List ℕ) : Told → List ℕ → Type 0 where
  refused : {t : Told} → TableTells table t → WriterTells make table out t out
  six : Fine table → length out < length (make table) → WriterTells make table out (6 with []) out
  made : Fine table → length (make table) ≤ length out
      → WriterTells make table out (0 with (length (make table) ∷ [])) (make table ++ drop (length (make table)) out)

-- THE SCHEDULE: 1 to 4; 5 Z is 0 or above 100,000; 6 the buffer is shorter than the rows, which are those that obey the dispatcher's rules;
-- else 200 on time with the row count, or 201 late with it and the task, job and deadline of the late job, and the rows at the start of the buffer
pub data ScheduleTells (table : List ℕ) (z : ℕ) (out : List ℕ) : Told → List ℕ → Type 0 where
  refused : {t : Told} → TableTells table t → ScheduleTells table z out t out
  five : Fine table → (z ≡ 0) ⊎ (100000 < z) → ScheduleTells table z out (5 with []) out
  six : {rows : List Row} → Fine table → 1 ≤ z → z ≤ 100000 → Obeys 0 (concrete z (tasks_of table)) rows → length out < 4 * length rows
      → ScheduleTells table z out (6 with []) out
  on_time : {rows : List Row} → Fine table → 1 ≤ z → z ≤ 100000 → Obeys 0 (concrete z (tasks_of table)) rows → 4 * length rows ≤ length out
      → ((w : Row) → Memᴰ w rows → late w ≡ false)
      → ScheduleTells table z out (200 with (length rows ∷ [])) (row_words rows ++ drop (4 * length rows) out)
  too_late : {rows : List Row} {w : Row} → Fine table → 1 ≤ z → z ≤ 100000 → Obeys 0 (concrete z (tasks_of table)) rows → 4 * length rows ≤ length out
      → NamedLate rows w
      → ScheduleTells table z out (201 with (length rows ∷ w.job.task ∷ w.job.number ∷ w.job.deadline ∷ [])) (row_words rows ++ drop (4 * length rows) out)

-- THE VERDICT on tasks: 101 misses, with the least L that fails, the blocker, which is left out where Wait(L) is 0, and Due(L) + Wait(L) − L;
-- 100 meets, with the span; 102 too far, with nothing
pub data VerdictTells (ts : List Task) : Told → Type 0 where
  misses : {L b : ℕ} → Least (λ K. fails K ts) L → 0 < longest_wait L ts → Blocks L ts b
      → VerdictTells ts (101 with (L ∷ b ∷ (total_due L ts + longest_wait L ts - L) ∷ []))
  misses_alone : {L : ℕ} → Least (λ K. fails K ts) L → longest_wait L ts ≡ 0 → VerdictTells ts (101 with (L ∷ (total_due L ts + longest_wait L ts - L) ∷ []))
  meets : {σ : ℕ} → Nowhere (λ K. fails K ts) → Least (λ t. closes t ts) σ → VerdictTells ts (100 with (σ ∷ []))
  too_far : Nowhere (λ K. fails K ts) → Nowhere (λ t. closes t ts) → VerdictTells ts (102 with [])

-- the verdict call: 1 to 4; else the verdict
pub data JudgeTells (table : List ℕ) : Told → Type 0 where
  refused : {t : Told} → TableTells table t → JudgeTells table t
  judged : {t : Told} → Fine table → VerdictTells (tasks_of table) t → JudgeTells table t

-- THE PATTERN: 1 to 4; 8 the verdict isn't "misses"; 6 the buffer is shorter than the rows of the named pattern; else 0 with the row count, and
-- the rows at the start of the buffer
pub data PatternTells (table out : List ℕ) : Told → List ℕ → Type 0 where
  refused : {t : Told} → TableTells table t → PatternTells table out t out
  eight : Fine table → Nowhere (λ K. fails K (tasks_of table)) → PatternTells table out (8 with []) out
  six : {L : ℕ} {rows : List Row} → Fine table → Least (λ K. fails K (tasks_of table)) L → Obeys 0 (named L (tasks_of table)) rows
      → length out < 4 * length rows → PatternTells table out (6 with []) out
  shown : {L : ℕ} {rows : List Row} → Fine table → Least (λ K. fails K (tasks_of table)) L → Obeys 0 (named L (tasks_of table)) rows
      → 4 * length rows ≤ length out → PatternTells table out (0 with (length rows ∷ [])) (row_words rows ++ drop (4 * length rows) out)

-- THE FIRST SET OF A TEXT, for the C call and the program: 7 with the line; 4 with the word; else the verdict
pub data FirstTells (text : List ℕ) : Told → Type 0 where
  seven : {l : ℕ} → read_set text ≡ stop l → FirstTells text (7 with (l ∷ []))
  four : {ws after : List ℕ} {i : ℕ} → read_set text ≡ took ws after → FirstOut ws i → FirstTells text (4 with (i ∷ []))
  judged : {ws after : List ℕ} {t : Told} → read_set text ≡ took ws after → Fine ws → VerdictTells (tasks_of ws) t → FirstTells text t

-- the lines that the program prints of what is told
pub data Prints : Told → List ℕ → Type 0 where
  meets : {σ : ℕ} → Prints (100 with (σ ∷ [])) (line (bytes "verdict=") (bytes "meets") ++ line (bytes "span=") (digits σ))
  misses : {L b over : ℕ}
      → Prints (101 with (L ∷ b ∷ over ∷ []))
      (line (bytes "verdict=") (bytes "misses")
      ++ (line (bytes "length=") (digits L) ++ (line (bytes "blocker=") (digits b) ++ line (bytes "over=") (digits over))))
  misses_alone : {L over : ℕ}
      → Prints (101 with (L ∷ over ∷ []))
      (line (bytes "verdict=") (bytes "misses")
      ++ (line (bytes "length=") (digits L) ++ (line (bytes "blocker=") (bytes "none") ++ line (bytes "over=") (digits over))))
  too_far : Prints (102 with []) (line (bytes "verdict=") (bytes "toofar"))
  four : {i : ℕ} → Prints (4 with (i ∷ [])) (line (bytes "refused=") (digits 4) ++ line (bytes "word=") (digits i))
  seven : {l : ℕ} → Prints (7 with (l ∷ [])) (line (bytes "refused=") (digits 7) ++ line (bytes "line=") (digits l))

-- THE REPORT OF ONE SET: 6 the buffer is shorter than the lines; else 0 with their length and how much is left to read, and the lines at its start
pub data ReportTells (n : ℕ) (text out : List ℕ) : Told → List ℕ → Type 0 where
  six : length out < length (set_lines n text) → ReportTells n text out (6 with []) out
  lines : length (set_lines n text) ≤ length out
      → ReportTells n text out (0 with (length (set_lines n text) ∷ length (set_rest text) ∷ [])) (set_lines n text ++ drop (length (set_lines n text)) out)

-- THE PROGRAM: set after set, numbered from n on, until nothing is left to read; after a 7 nothing is
pub data Run : ℕ → List ℕ → List ℕ → Type 0 where
  last : {n : ℕ} {text ls : List ℕ} {t : Told} → FirstTells text t → Prints t ls → set_rest text ≡ [] → Run n text (line (bytes "set=") (digits n) ++ ls)
  more :
      {n : ℕ} {text ls printed : List ℕ} {t : Told} → FirstTells text t → Prints t ls → (set_rest text ≡ [] → ⊥) → Run (suc n) (set_rest text) printed
      → Run n text ((line (bytes "set=") (digits n) ++ ls) ++ printed)

-- words that are those of a table with these tasks
pub record WordsFor (ts : List Task) (ws : List ℕ) : Type 0 where
  pub four_each : length ws ≡ 4 * length ts
  pub in_order : tasks_of ws ≡ ts

-- THE SET OF A NUMBER that is drawn from a state: 6 the table is shorter than the set, and then the state stays;
-- else 0 with the task count, the state after the set, and the set's words at the start of the table
pub data SetTells (s number : ℕ) (table : List ℕ) : Told → ℕ → List ℕ → Type 0 where
  six : {ts : List Task} {after : ℕ} → FromSeed s number ts after → length table < 4 * length ts → SetTells s number table (6 with []) s table
  set : {ts : List Task} {after : ℕ} {ws : List ℕ} → FromSeed s number ts after → 4 * length ts ≤ length table → WordsFor ts ws
      → SetTells s number table (0 with (length ts ∷ [])) after (ws ++ drop (4 * length ts) table)

-- THE SHEET'S READER: 13 no good header stands first; 14 a record after it is not as due or is a 65th, with the number of the first such record; 15 no
-- record follows it; 6 the table is shorter than the tasks; else 0 with the task count, and their words at the start of the table
pub data SheetTells (sheet table : List ℕ) : Told → List ℕ → Type 0 where
  thirteen : ((hs : List (List ℕ)) (after : List ℕ) → Header sheet hs after → ⊥) → SheetTells sheet table (13 with []) table
  fourteen : {hs : List (List ℕ)} {after : List ℕ} {l : ℕ} → Header sheet hs after → NotDue hs 2 after l → SheetTells sheet table (14 with (l ∷ [])) table
  fifteen : {hs : List (List ℕ)} → Header sheet hs [] → SheetTells sheet table (15 with []) table
  six : {hs : List (List ℕ)} {after ws : List ℕ} → Header sheet hs after → Tasks hs after ws → 0 < length ws → length ws ≤ 256 → length table < length ws
      → SheetTells sheet table (6 with []) table
  set : {hs : List (List ℕ)} {after ws : List ℕ} → Header sheet hs after → Tasks hs after ws → 0 < length ws → length ws ≤ 256 → length ws ≤ length table
      → SheetTells sheet table (0 with (length ws / 4 ∷ [])) (ws ++ drop (length ws) table)
