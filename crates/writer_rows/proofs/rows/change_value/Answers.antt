use Rattle.std.proofs.Common.{rules, refl, arith, w32, w64, SFits}
use mir.Facts.{to_z-of_z}
use Rattle.page_numbers.proofs.Machine.{machine, of_fits}
use Rattle.inserted.proofs.FixedValues.{fixed_in}
use Rattle.writer_rows.proofs.rows.change_value.Goals as goal

pub returns-in-Some : goal.returns-in-Some
returns-in-Some c = let a = c.args in
    let k : SFits w32 c.in-Some.k = search rules in
    let wide : SFits w64 c.in-Some.k = omega (arith, machine, of_fits k) in
    rw (← fixed_in a.q.now c.whole.ensures a.i a.c _ c.fixed_at.ensures, c.in-Some.is, c.from.ensures, to_z-of_z k, to_z-of_z wide) refl

pub returns-in-None : goal.returns-in-None
returns-in-None c = let a = c.args in rw (← fixed_in a.q.now c.whole.ensures a.i a.c _ c.fixed_at.ensures, c.in-None.is) (to_z-of_z c.ranges.z)
