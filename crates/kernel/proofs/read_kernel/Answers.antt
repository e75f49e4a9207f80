-- `kernel::read_kernel` meets its contract: each way out is one of the ways in which a record is a row or none.
use Rattle.std.proofs.Common.{refl, arith}
use Rattle.kernel.proofs.Rows.{no_kernel, miscounted, complete}
use Rattle.kernel.proofs.read_kernel.Goals as goal

-- no record, or a field is no number where one is due
pub returns-in_err-n : goal.returns-in_err-n
returns-in_err-n c = rw c.from_residual.ensures (no_kernel _ _ _ c.args.header.within _ c.in_err-n.ensures)

-- another number of fields than the header
pub returns-then-n-header : goal.returns-then-n-header
returns-then-n-header c = miscounted _ _ _ c.args.header.within _ c.in_ok-n.ensures (λ e. omega arith)

-- the row
pub returns : goal.returns
returns c = complete _ _ _ c.args.header.within _ c.in_ok-n.ensures (omega arith) refl
