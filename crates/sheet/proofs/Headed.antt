-- What a header that was found and what was read after it tell of a sheet: a record is not as due; or the tasks are the words that were read, four a
-- task.
use mathlib.Core.Path.{◌≡◌, refl, ◌∙◌}
use Prim.Native.Nat.{ℕ, ◌*◌, ◌≤◌}
use native.Mathlib.Omega.{arith}
use mathlib.Core.List.{List}
use lib.ListN.{length, take}
use lib.Seq.{length-take-le}
use Rattle.rules.specs.Numbers.{task_most}
use Rattle.rules.specs.Sheet.{Sheet, tasks, read_tasks, read_sheet}
use Rattle.rules.specs.Calls.{ReadsSheet}
use Rattle.rules.specs.declared.Refusal.{Refusal}
use Rattle.rules.proofs.HeaderSteps.{good_header_law}
use Rattle.rules.proofs.SheetReading.{sheet_stops}
use Rattle.header.specs.Headers.{Good, good}
use Rattle.kernel.specs.Kernels.{Said, Reads, whole, stopped}
use Rattle.std.specs.Prelude.{Ok, Err}

-- the records are the sheet
headed : {sheet columns after : List ℕ} {count : ℕ} → Good sheet columns count after → read_sheet sheet ≡ read_tasks count columns task_most 2 after
headed (good {hs} e g) = good_header_law _ hs _ e g

-- what was said of the records, by the answer
said_stops : {sheet words : List ℕ} {r : Refusal} {k : Sheet} (table : List ℕ) → read_sheet sheet ≡ k → Said words (Err r) k
    → ReadsSheet sheet table (Err r) table
said_stops table e (stopped {l}) = sheet_stops _ table l e

said_tasks : {words : List ℕ} {n : ℕ} {k : Sheet} → Said words (Ok n) k → k ≡ tasks (take (4 * n) words)
said_tasks (whole h) = refl

said_few : {words : List ℕ} {n : ℕ} {k : Sheet} → Said words (Ok n) k → n ≤ task_most
said_few (whole h) = h

-- a record is not as due
pub stops : {sheet columns after words : List ℕ} {count : ℕ} {r : Refusal} (table : List ℕ) → Good sheet columns count after
    → Reads after columns count (Err r) words → ReadsSheet sheet table (Err r) table
stops table header read = said_stops table (headed header) read.said

-- all are
pub reads_tasks : {sheet columns after words : List ℕ} {count n : ℕ} → Good sheet columns count after
    → Reads after columns count (Ok n) words → read_sheet sheet ≡ tasks (take (4 * n) words)
reads_tasks header read = headed header ∙ said_tasks read.said

-- each task has four words
pub words_long : {s columns words : List ℕ} {count n : ℕ} → Reads s columns count (Ok n) words → length (take (4 * n) words) ≡ 4 * n
words_long {words} {n} read = length-take-le (4 * n) words (omega (arith, said_few read.said, read.long))
