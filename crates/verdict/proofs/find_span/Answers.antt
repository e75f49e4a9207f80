-- `verdict::find_span` finds the span: none before t closes, and where t does not close none before its work does, since the work grows with t.
use Rattle.std.proofs.Common.{sym, arith}
use Rattle.rules.proofs.Looks.{span_at, span_none, none_closes}
use Rattle.verdict.proofs.find_span.Goals as goal

-- t closes
pub returns-then-work-from : goal.returns-then-work-from
returns-then-work-from c =
    let at_loop = c.loop-t.invariant in
    sym (span_at _ _ at_loop.none_before at_loop.low at_loop.high (omega arith))

-- the work is above H
pub returns-then-from-work : goal.returns-then-from-work
returns-then-from-work c = sym (span_none _ c.loop-t.t c.loop-t.invariant.none_before (omega arith))

-- the look goes on from the work
pub loop-t-preserved : goal.loop-t-preserved
loop-t-preserved c = record {
  low = omega arith;
  high = omega arith;
  none_before = none_closes _ _ c.loop-t.invariant.none_before c.work_at-work.result (omega arith);
}
