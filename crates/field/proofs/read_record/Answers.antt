-- `field::read_record` meets its contract: each field is found and taken, or the record is not as due.
use Rattle.std.proofs.Common.{true, false, arith}
use Rattle.field.proofs.Records.{fewer_left}
use Rattle.field.proofs.Takers.{none_taken, all_taken, broken, stopped, one_more}
use Rattle.field.proofs.read_record.Goals as goal

pub loop-field-init : goal.loop-field-init
loop-field-init g c = (omega arith, none_taken _ _ (g.met.T.Taker.begins _))

-- the next field is not as due
pub returns-in_err-field : goal.returns-in_err-field
returns-in_err-field g c = rw c.from_residual.ensures (broken g.T.Taker.refused _ c.loop-field.invariant.1 c.in_err-field.ensures)

-- it is not taken
pub returns-in_err-take : goal.returns-in_err-take
returns-in_err-take g c =
    let field = c.in_ok-field.field in
    rw c.from_residual-in_err-take.ensures (stopped g.T.Taker.refused _ c.loop-field.invariant.1 field.body.now field.rest.now field.last c.in_ok-field.ensures _ c.in_err-take.ensures)

-- the last field is taken
pub returns-then-field : goal.returns-then-field
returns-then-field g c =
    let field = c.in_ok-field.field in
    all_taken (one_more g.T.Taker.refused _ c.loop-field.invariant.1 field.body.now field.rest.now field.last c.in_ok-field.ensures _ c.in_ok-take.ensures true c.if-field.true)

-- more fields follow, in fewer bytes
pub loop-field-smaller : goal.loop-field-smaller
loop-field-smaller g c = let field = c.in_ok-field.field in fewer_left _ field.body.now field.rest.now field.last c.if-field.false c.in_ok-field.ensures

pub loop-field-preserved : goal.loop-field-preserved
loop-field-preserved g c =
    let field = c.in_ok-field.field in
    let fewer = fewer_left _ field.body.now field.rest.now field.last c.if-field.false c.in_ok-field.ensures in (
      omega (arith, fewer),
      one_more g.T.Taker.refused _ c.loop-field.invariant.1 field.body.now field.rest.now field.last c.in_ok-field.ensures _ c.in_ok-take.ensures false c.if-field.false,
    )
