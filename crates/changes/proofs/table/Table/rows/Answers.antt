use native.Mathlib.Omega.{arith}
use Rattle.fields.proofs.Run.{one_read, one_refused, front_read}
use Rattle.changes.proofs.table.Table.rows.Goals as goal

pub loop-row-preserved : goal.loop-row-preserved
loop-row-preserved c = one_read c.loop-row.invariant (omega (arith, c.loop-row.invariant.going.sized, c.loop-row.auto.row-items)) (omega arith) c.in_ok-row.ensures

pub returns-in_err-row : goal.returns-in_err-row
returns-in_err-row c = one_refused c.loop-row.invariant (omega (arith, c.loop-row.invariant.going.sized, c.loop-row.auto.row-items)) c.from_residual.ensures.1 c.in_err-row.ensures

pub returns : goal.returns
returns c = front_read _ c.loop-row.invariant (omega (arith, c.loop-row.invariant.going.sized, c.loop-row.auto.row-items))
