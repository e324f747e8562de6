use mathlib.Core.Path.{refl}
use mathlib.Core.List.{map-id}
use native.Mathlib.Omega.{arith}
use Rattle.page_questions.specs.Layout.{total}
use Rattle.fields.proofs.Run.{none_read, one_refused, all_read}
use Rattle.tables.proofs.Totals.{this_width, width_on, counted}
use Rattle.tables.proofs.widths.widths.Goals as goal

pub loop-i-init : goal.loop-i-init
unfolding total
loop-i-init c = record { run = none_read refl; sums = refl; small = omega arith; each = λ j h. absurd (omega (arith, h)) }

pub loop-i-preserved : goal.loop-i-preserved
loop-i-preserved c = width_on c.loop-i.invariant c.requires c.loop-i-test.true c.in_ok-width.ensures

pub returns-in_err-width-clause-meaning : goal.returns-in_err-width-clause-meaning
returns-in_err-width-clause-meaning c = one_refused c.loop-i.invariant.run c.loop-i-test.true c.from_residual.ensures.1 (this_width c.loop-i.invariant c.in_err-width.ensures)

pub returns-clause-meaning : goal.returns-clause-meaning
returns-clause-meaning c = let s = all_read c.loop-i.invariant.run c.loop-i-test.false in record { same = s.same; meaning = rw map-id at s.meaning }

pub returns-clause-counted : goal.returns-clause-counted
returns-clause-counted c = counted c.loop-i.invariant c.requires c.loop-i-test.false
