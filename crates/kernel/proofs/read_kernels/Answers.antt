-- `kernel::read_kernels` meets its contract: each turn is a step of `read_tasks`, whose words go behind those of the records before.
use Rattle.std.proofs.Common.{◌≡◌, ◌+◌, ◌-◌, ◌*◌, ◌<◌, length, sym, ◌∙◌, arith}
use borrow.Rule.Slice.PartMut.{same_len_mid}
use Rattle.std.proofs.lemmas.Slice.{take-put_mid}
use Rattle.std.proofs.lemmas.Grind.{common_steps}
use Rattle.rules.proofs.RowSteps.{ahead_none, tasks_done, tasks_full, tasks_wrong, tasks_more}
use Rattle.kernel.proofs.Outcomes.{all_read, stops}
use Rattle.kernel.proofs.read_kernels.Goals as goal

pub loop-rest-init : goal.loop-rest-init
loop-rest-init c = (omega arith, omega arith, ahead_none _)

-- a record too many
pub returns-then-n-eq-TASK_MOST : goal.returns-then-n-eq-TASK_MOST
returns-then-n-eq-TASK_MOST c =
    let so_far = c.loop-rest.invariant in
    let some : 0 < length c.loop-rest.rest.now = grind (arith, common_steps) in
    stops so_far.1 (sym so_far.2 ∙ tasks_full _ _ _ _ _ (omega arith) (omega arith))

-- a record is not as due
pub returns-in_default : goal.returns-in_default
returns-in_default c =
    let so_far = c.loop-rest.invariant in
    let some : 0 < length c.loop-rest.rest.now = grind (arith, common_steps) in
    stops so_far.1 (sym so_far.2 ∙ tasks_wrong _ _ _ _ _ (omega arith) (omega arith) c.in_default.ensures)

pub loop-rest-preserved : goal.loop-rest-preserved
loop-rest-preserved c =
    let so_far = c.loop-rest.invariant in
    let some : 0 < length c.loop-rest.rest.now = grind (arith, common_steps) in
    let n = c.loop-rest.n in
    let words = c.copy_from_slice.new.self in
    let four : length words ≡ 4 = omega arith in (
      omega arith,
      same_len_mid (4 * n) (4 * n + 4 - 4 * n) c.loop-rest.words words (omega (arith, four)) ∙ so_far.1,
      rw (take-put_mid (4 * n) (4 * n + 4 - 4 * n) c.loop-rest.words words (4 * (n + 1)) (omega (arith, four)) (omega arith), c.copy_from_slice.ensures.after)
          (tasks_more _ _ _ _ _ (omega arith) (omega arith) _ _ c.in-Some.ensures) ∙ so_far.2,
    )

-- the end of the sheet
pub returns : goal.returns
returns c =
    let so_far = c.loop-rest.invariant in
    let none : length c.loop-rest.rest.now ≡ 0 = grind (arith, common_steps) in
    all_read so_far.0 so_far.1 (sym so_far.2 ∙ tasks_done _ _ _ _ _ none)
