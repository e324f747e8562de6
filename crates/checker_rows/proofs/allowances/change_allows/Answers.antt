use Rattle.std.proofs.Common.{rules, w32, SFits, refl}
use mir.Facts.{to_z-of_z}
use Rattle.inserted.proofs.FixedValues.{fixed_in}
use Rattle.checker_rows.proofs.allowances.change_allows.Goals as goal

pub returns-in-None : goal.returns-in-None
returns-in-None c = let a = c.args in rw (← fixed_in a.q.now c.whole.ensures a.i a.c _ c.fixed_at.ensures, c.in-None.is) refl

pub returns-in-Some : goal.returns-in-Some
returns-in-Some c = let a = c.args in
    let k : SFits w32 c.in-Some.k = search rules in
    rw (← fixed_in a.q.now c.whole.ensures a.i a.c _ c.fixed_at.ensures, c.in-Some.is) (rw (to_z-of_z c.ranges.z, to_z-of_z k) at c.same.ensures)
