-- `table::Tasks::new` takes what `check_table` doesn't refuse: such a table is in bounds.
use Rattle.std.proofs.Common.{refl}
use Rattle.std.proofs.lemmas.Result.{err_from_is_err_and}
use Rattle.rules.proofs.Calls.{refused_by, not_refused, in_bounds}
use Rattle.table.proofs.Tasks.new.Goals as goal

-- it is refused
pub returns-in_err-check_table : goal.returns-in_err-check_table
returns-in_err-check_table c =
    let p = err_from_is_err_and c.from_residual.result c.from_residual.ensures.1 in
    rw (p.1, p.2) (refused_by _ _ c.check_table.ensures c.in_err-check_table.was)

-- it is not
pub invariant_of-result : goal.invariant_of-result
invariant_of-result c = record { valid = in_bounds _ c.check_table.ensures c.in_ok-check_table.was }

pub returns : goal.returns
returns c = (not_refused _ c.check_table.ensures c.in_ok-check_table.was, refl)
