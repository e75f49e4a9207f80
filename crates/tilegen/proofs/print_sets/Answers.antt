-- `tilegen::print_sets`: each piece follows the sets before it, drawn from the state that they left.
use Rattle.std.proofs.Common.{arith}
use Rattle.stdio.proofs.Known.{beginning_written}
use Rattle.tilegen.proofs.Following.{printed_none, printed_more, printed_begun, printed_all}
use Rattle.tilegen.proofs.print_sets.Goals as goal

pub loop-number-init : goal.loop-number-init
loop-number-init g c = printed_none _ _ _

-- a piece is not written whole
pub returns-in_err-print_piece : goal.returns-in_err-print_piece
returns-in_err-print_piece g c =
    let begun = beginning_written _ _ c.print_piece.result _ c.print_piece.ensures.printed in
    printed_begun _ _ _ c.loop-number.invariant _ c.min-many.result (omega arith) begun

pub loop-number-preserved : goal.loop-number-preserved
loop-number-preserved g c =
    printed_more _ _ _ c.loop-number.invariant _ _ (omega arith) (omega arith) c.print_piece.ensures.moved c.in_ok-print_piece.ensures.printed

-- this was the last piece
pub returns-in_ok-print_piece : goal.returns-in_ok-print_piece
returns-in_ok-print_piece g c =
    let all = printed_more _ c.args.count _ c.loop-number.invariant _ _ {next = c.args.count} (omega arith) (omega arith) c.print_piece.ensures.moved c.in_ok-print_piece.ensures.printed in
    printed_all _ _ _ all (omega arith)

-- there was none
pub returns : goal.returns
returns g c = printed_all _ _ _ c.loop-number.invariant (omega arith)
