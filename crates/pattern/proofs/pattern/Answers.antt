-- `pattern::pattern` gives the pattern behind a "misses": refusals 1 to 4 by the table's check, 8 by the verdict, and the rest as the dispatcher
-- does with the plan of the verdict's length and blocker. One row is late by the promise of "misses".
use Rattle.std.proofs.Common.{sym}
use Rattle.std.proofs.lemmas.Result.{err_from_is_err_and}
use Rattle.rules.proofs.Calls.{pattern_refused, pattern_none}
use Rattle.pattern.proofs.Shown.{shown, no_misses, late_shown}
use Rattle.pattern.proofs.pattern.Goals as goal

-- 1 to 4
pub returns-in_err-tasks-clause-shows : goal.returns-in_err-tasks-clause-shows
returns-in_err-tasks-clause-shows c =
    let p = err_from_is_err_and c.from_residual.result c.from_residual.ensures.1 in
    rw (p.1, p.2) (pattern_refused _ _ _ c.in_err-tasks.ensures)

-- 8
pub returns-in_default : goal.returns-in_default
returns-in_default c =
    let judged = rw c.in_ok-tasks.ensures.1 at c.judge_table.ensures in
    record { shows = pattern_none _ _ c.in_ok-tasks.ensures.0 (no_misses _ c.judge_table.result c.in_default.not-Misses judged); late = tt }

-- 6
pub returns-in_err-timing-clause-shows : goal.returns-in_err-timing-clause-shows
returns-in_err-timing-clause-shows c =
    let p = err_from_is_err_and c.from_residual-in_err-timing.result c.from_residual-in_err-timing.ensures.1 in
    let judged = rw c.in_ok-tasks.ensures.1 at c.in-Misses.ensures in
    let dispatched = rw (c.in_ok-tasks.ensures.1, c.in_err-timing.was) at c.dispatch.ensures in
    rw (p.1, p.2) (shown _ _ _ _ _ c.in_ok-tasks.ensures.0 (sym judged) dispatched)

-- the rows
pub returns : goal.returns
returns c =
    let judged = rw c.in_ok-tasks.ensures.1 at c.in-Misses.ensures in
    let dispatched = rw (c.in_ok-tasks.ensures.1, c.in_ok-timing.was) at c.dispatch.ensures in
    let shows = shown _ _ _ _ _ c.in_ok-tasks.ensures.0 (sym judged) dispatched in
    record { shows = shows; late = late_shown _ _ shows }
