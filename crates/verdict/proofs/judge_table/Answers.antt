-- `verdict::judge_table` gives the verdict: the two looks find what the definition searches for, and it is judged by them in the same order.
use Rattle.std.proofs.Common.{sym}
use Rattle.rules.proofs.Looks.{verdict_misses, verdict_meets, verdict_too_far}
use Rattle.verdict.proofs.judge_table.Goals as goal

-- a length fails
pub returns-in-Some : goal.returns-in-Some
returns-in-Some c = sym (verdict_misses _ _ _ _ c.in-Some.ensures.0 c.blocker_at.ensures c.in-Some.ensures.1)

-- none fails, and there is a span
pub returns-in-Some-find_span : goal.returns-in-Some-find_span
returns-in-Some-find_span c = sym (verdict_meets _ _ c.in_default.ensures (sym c.in-Some-find_span.ensures))

-- none fails, and there is no span
pub returns-in-None : goal.returns-in-None
returns-in-None c = sym (verdict_too_far _ c.in_default.ensures (sym c.in-None.ensures))
