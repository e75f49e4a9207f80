-- `read_sheet`: each return is one of the ways in which a sheet is read: no header (13), a record that is not as due (14), no record (15), a table
-- too short for the words (6), or they are copied. What the records' reader said is found from the value at hand, whatever that passed through.
use Rattle.std.proofs.Common.{◌≡◌, ℕ, List, ◌*◌, ◌/◌, ◌++◌, length, take, drop, ap, ◌∙◌, arith}
use Rattle.std.proofs.lemmas.Result.{err_from_is_err_and}
use Rattle.rules.specs.Sheet.{tasks}
use Rattle.rules.proofs.SheetReading.{sheet_headless, sheet_empty, sheet_short, sheet_set}
use Rattle.sheet.proofs.Headed.{stops, reads_tasks, words_long}
use Rattle.sheet.proofs.read_sheet.Goals as goal
use Rattle.std.specs.Prelude.{Ok, Err}

-- no header
pub returns-in_default : goal.returns-in_default
returns-in_default c = sheet_headless _ _ c.in_default.ensures

-- a record is not as due
pub returns-in_err-n : goal.returns-in_err-n
returns-in_err-n c =
    let p = err_from_is_err_and c.from_residual.result c.from_residual.ensures.1 in
    let said : c.read_kernels.result ≡ Err c.in_err-n.field-0.0 = grind arith in
    let read = rw said at c.read_kernels.ensures in
    rw (p.1, p.2) (stops _ c.in-Some.ensures read)

-- no record
pub returns-then-n-eq0 : goal.returns-then-n-eq0
returns-then-n-eq0 c =
    let words = c.read_kernels.new.words in
    let said : c.read_kernels.result ≡ Ok c.in_ok-n.n = grind arith in
    let read = rw said at c.read_kernels.ensures in
    sheet_empty _ _ (reads_tasks c.in-Some.ensures read ∙ ap (λ (n : ℕ). tasks (take (4 * n) words)) c.if-n-eq0.true)

-- the table is too short
pub returns-then-table-read : goal.returns-then-table-read
returns-then-table-read c =
    let said : c.read_kernels.result ≡ Ok c.in_ok-n.n = grind arith in
    let read = rw said at c.read_kernels.ensures in
    let long = words_long read in
    sheet_short _ _ _ (reads_tasks c.in-Some.ensures read) (omega arith) (omega arith)

-- the words are copied
pub returns : goal.returns
returns c =
    let table = c.args.table.now in
    let words = take (4 * c.in_ok-n.n) c.read_kernels.new.words in
    let said : c.read_kernels.result ≡ Ok c.in_ok-n.n = grind arith in
    let read = rw said at c.read_kernels.ensures in
    let long = words_long read in
    let counted : c.in_ok-n.n ≡ length words / 4 = omega arith in
    let outcome = sheet_set c.args.text.now table words (reads_tasks c.in-Some.ensures read) (omega arith) (omega arith) in
    record {
      says = ap Ok counted ∙ outcome.says;
      leaves = ap (λ (ws : List ℕ). ws ++ drop (length words) table) c.copy_from_slice.ensures.after ∙ outcome.leaves;
    }
