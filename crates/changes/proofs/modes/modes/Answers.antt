use native.Mathlib.Omega.{arith}
use Rattle.fields.proofs.Run.{one_read, one_refused, front_read}
use Rattle.changes.proofs.modes.modes.Goals as goal

pub loop-setting-preserved : goal.loop-setting-preserved
loop-setting-preserved c = let t = c.in_ok-setting.ensures in
    one_read c.loop-setting.invariant (omega (arith, c.loop-setting.invariant.going.sized, c.loop-setting.auto.setting-items)) (omega arith) (record { same = t.same; meaning = t.meaning })

pub returns-in_err-setting : goal.returns-in_err-setting
returns-in_err-setting c = let t = c.in_err-setting.ensures in
    one_refused c.loop-setting.invariant (omega (arith, c.loop-setting.invariant.going.sized, c.loop-setting.auto.setting-items)) c.from_residual.ensures.1 (record { same = t.same; meaning = t.meaning })

pub returns : goal.returns
returns c = front_read _ c.loop-setting.invariant (omega (arith, c.loop-setting.invariant.going.sized, c.loop-setting.auto.setting-items))
