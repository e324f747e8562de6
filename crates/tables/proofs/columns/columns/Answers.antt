use native.Mathlib.Omega.{arith}
use Rattle.fields.proofs.Run.{one_read, one_refused, front_read}
use Rattle.tables.proofs.columns.columns.Goals as goal

pub loop-place-preserved : goal.loop-place-preserved
loop-place-preserved c = one_read c.loop-place.invariant (omega (arith, c.loop-place.invariant.going.sized, c.loop-place.auto.place-items)) (omega arith) c.in_ok-place.ensures

pub returns-in_err-place : goal.returns-in_err-place
returns-in_err-place c = one_refused c.loop-place.invariant (omega (arith, c.loop-place.invariant.going.sized, c.loop-place.auto.place-items)) c.from_residual.ensures.1 c.in_err-place.ensures

pub returns : goal.returns
returns c = front_read _ c.loop-place.invariant (omega (arith, c.loop-place.invariant.going.sized, c.loop-place.auto.place-items))
