-- `reader::read` meets its contract: each return is one of the ways in which a reading ends: a line is not as due (7), the table is too short for
-- the words (6), or they are copied.
use Rattle.std.proofs.Common.{◌≡◌, ℕ, List, ◌*◌, ◌/◌, ◌≤◌, ◌++◌, length, take, drop, Ok, ap, ◌∙◌, arith}
use Rattle.std.proofs.Math.Seq.{length-take-le}
use Rattle.rules.specs.Numbers.{task_most}
use Rattle.rules.proofs.Calls as calls
use Rattle.reader.proofs.read.Goals as goal

-- a line is not as due
pub returns-in-Err : goal.returns-in-Err
returns-in-Err c = let stops = c.in-Err.ensures in rw stops.refuses (calls.read_stops _ _ stops.line stops.says)

-- the table is too short
pub returns-then-table-set : goal.returns-then-table-set
returns-then-table-set c = calls.read_short _ _ _ _ c.in-Ok.ensures.says c.if-table-set.true

-- the words are copied
pub returns-else-table-set : goal.returns-else-table-set
returns-else-table-set c =
    let set = c.in-Ok.ensures in
    let few : c.in-Ok.n ≤ task_most = set.few in
    let table = c.args.table.now in
    let words = take (4 * c.in-Ok.n) c.scan_set.new.words in
    let all_there : length words ≡ 4 * c.in-Ok.n = length-take-le _ _ (omega arith) in
    let tasks_are : c.in-Ok.n ≡ length words / 4 = omega (arith, all_there) in
    let outcome = calls.read_set_law c.args.text.now table words _ set.says c.if-table-set.false in
    record {
      says = ap Ok tasks_are ∙ outcome.says;
      hands_back = outcome.hands_back;
      leaves = ap (λ (l : List ℕ). l ++ drop (length words) table) c.copy_from_slice.ensures.after ∙ outcome.leaves;
    }
