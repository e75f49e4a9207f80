-- Each set takes 24 bytes at least and its lines 83 at most, so no report is refused, and each turn leaves less to read.
use Rattle.std.proofs.Common.{ap, arith}
use Rattle.std.specs.Result.{is_ok}
use Rattle.output.proofs.Turns.{at_first, answers, rest_less, next_shorter, at_last, at_next}
use Rattle.output.proofs.put_sets.Goals as goal

pub loop-text-init : goal.loop-text-init
loop-text-init c = at_first c.args.input.now c.args.out.now c.requires.0

pub unwrap-told-requires : goal.unwrap-told-requires
unwrap-told-requires c = ap is_ok (answers _ _ _ _ _ _ c.loop-text.invariant c.requires.0 c.requires.1 _ _ c.report.ensures)

pub returns-then-told-eq0 : goal.returns-then-told-eq0
returns-then-told-eq0 c =
    at_last _ _ _ _ _ _ c.loop-text.invariant c.requires.0 c.requires.1 _ _ c.report.ensures _ c.unwrap-told.ensures (omega arith)

pub overflow_sub-text : goal.overflow_sub-text
overflow_sub-text c =
    let h = rest_less _ _ _ _ _ _ c.loop-text.invariant c.requires.0 c.requires.1 _ _ c.report.ensures _ c.unwrap-told.ensures (omega arith) in
    omega arith

pub loop-text-smaller : goal.loop-text-smaller
loop-text-smaller c =
    next_shorter _ _ _ _ _ _ c.loop-text.invariant c.requires.0 c.requires.1 _ _ c.report.ensures _ c.unwrap-told.ensures (omega arith)

pub loop-text-preserved : goal.loop-text-preserved
loop-text-preserved c =
    at_next _ _ _ _ _ _ c.loop-text.invariant c.requires.0 c.requires.1 _ _ c.report.ensures _ c.unwrap-told.ensures (omega arith)
